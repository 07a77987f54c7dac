-- Where the functions, slots and variables of a project stand.
use Rattle.std.specs.Prelude.{ℕ, zero, suc, ◌+◌, ◌*◌, Bool, true, not, if◌then◌else◌, List, [], ◌∷◌, ◌++◌, length, flat_map, filter, take, sum_by, Option, Some, None, bytes_eq, slice_get}
use Rattle.std.specs.Option.{option_map_or}
use Rattle.std.specs.List.{prefix_len}
use Rattle.pw_base.specs.Limits.{module_span, text_offset, data_offset}
use Rattle.pw_tree.specs.declared.ty.Ref.{Ref}
use Rattle.pw_tree.specs.declared.ty.Ref.TheVariants.{Global, LocalFun, LocalVar}
use Rattle.pw_tree.specs.declared.tunit.TVar.{TVar}
use Rattle.pw_tree.specs.Units.{Function, TypedUnit}
use Rattle.pw_tree.specs.WellTypedUnits.{room}
use Rattle.pw_tree.specs.Names.{Project, Definition, Entity, function, object}
use Rattle.pw_code.specs.Items.{CodePart, instruction, address, size}
use Rattle.pw_code.specs.FunctionCode.{function_code, function_words, entry_code}
use Rattle.pw_code.specs.Objects.{is_initialised, is_uninitialised}

-- ---- modules

-- The units of the module of this number in the load order.
abbrev pub units_of : Project → ℕ → List TypedUnit
units_of project m = option_map_or (λ units. units) (slice_get project m) []

-- The address of a module (gABI, "Base Address").
abbrev pub base_of : ℕ → ℕ
base_of m = module_span * suc m

-- The address of a module's text.
abbrev pub text_of : ℕ → ℕ
text_of m = base_of m + text_offset

-- The address of a module's data.
abbrev pub data_of : ℕ → ℕ
data_of m = base_of m + data_offset

-- ---- text

-- The program's text begins with the entry, a library's with its first function.
abbrev pub code_before_functions : ℕ → List CodePart
code_before_functions zero = entry_code
code_before_functions (suc m) = []

-- How many words some functions have.
abbrev pub words_of_functions : List Function → ℕ
words_of_functions fs = sum_by function_words fs

-- How many words the functions of a unit have.
abbrev pub words_of_unit : TypedUnit → ℕ
words_of_unit unit = words_of_functions unit.functions

-- The functions of a unit of a module.
abbrev pub functions_of_unit : Project → ℕ → ℕ → List Function
functions_of_unit project m u = option_map_or (λ unit. unit.functions) (slice_get (units_of project m) u) []

-- How many words of a module's text stand before a function: the functions stand in order of units and of text.
abbrev pub words_before : Project → Definition → ℕ
words_before project d =
    size (code_before_functions d.in_module) + sum_by words_of_unit (take d.in_unit (units_of project d.in_module))
    + words_of_functions (take d.number (functions_of_unit project d.in_module d.in_unit))

-- How many words a module's text has.
abbrev pub words_of_module : Project → ℕ → ℕ
words_of_module project m = size (code_before_functions m) + sum_by words_of_unit (units_of project m)

-- The address of a function.
abbrev pub function_address : Project → Definition → ℕ
function_address project d = text_of d.in_module + 4 * words_before project d

-- ---- slots

-- The external names that some code refers to, in order.
unfoldable pub external_names : List CodePart → List (List ℕ)
external_names [] = []
external_names (instruction i ∷ code) = external_names code
external_names (address rd (Global name) ∷ code) = name ∷ external_names code
external_names (address rd (LocalFun i) ∷ code) = external_names code
external_names (address rd (LocalVar i) ∷ code) = external_names code

-- The first occurrence of each name of a list.
unfoldable pub each_name_once : List (List ℕ) → List (List ℕ)
each_name_once [] = []
each_name_once (name ∷ names) = name ∷ filter (λ other. not (bytes_eq name other)) (each_name_once names)

-- The names that have a slot in a module (psABI, "Global Offset Table"): those that its text refers to, by first reference.
abbrev pub slots_of : Project → ℕ → List (List ℕ)
slots_of project m = each_name_once
    (external_names (code_before_functions m) ++ flat_map (λ unit. flat_map (λ f. external_names (function_code f)) unit.functions) (units_of project m))

-- The address of a name's slot: the data begin with the slots, a doubleword each.
abbrev pub slot_address : Project → ℕ → List ℕ → ℕ
slot_address project m name = data_of m + 8 * prefix_len (λ other. not (bytes_eq other name)) (slots_of project m)

-- ---- variables

-- How many elements some variables have.
abbrev pub elements_of : List TVar → ℕ
elements_of xs = sum_by (λ x. room x.count) xs

-- The variables of a unit for which a test holds.
abbrev pub variables_of_unit : (TVar → Bool) → TypedUnit → List TVar
variables_of_unit test unit = filter test unit.variables

-- The variables of several units for which a test holds.
abbrev pub variables_of_units : (TVar → Bool) → List TypedUnit → List TVar
variables_of_units test units = flat_map (variables_of_unit test) units

-- The variables of a unit before one of its own.
abbrev pub variables_before_in_unit : (TVar → Bool) → Project → Definition → List TVar
variables_before_in_unit test project d =
    filter test (take d.number (option_map_or (λ unit. unit.variables) (slice_get (units_of project d.in_module) d.in_unit) []))

-- The variables of a module before one, among those for which the test holds: in order of units and of definition.
abbrev pub variables_before : (TVar → Bool) → Project → Definition → List TVar
variables_before test project d =
    variables_of_units test (take d.in_unit (units_of project d.in_module)) ++ variables_before_in_unit test project d

-- The variable of a definition has an initialiser.
abbrev pub definition_is_initialised : Project → Definition → Bool
definition_is_initialised project d =
    option_map_or
    (λ unit. option_map_or is_initialised (slice_get unit.variables d.number) true)
    (slice_get (units_of project d.in_module) d.in_unit) true

-- How many elements stand between a module's slots and a variable: the initialised variables come first, then the others.
abbrev pub elements_before : Project → Definition → ℕ
elements_before project d =
    if definition_is_initialised project d
    then elements_of (variables_before is_initialised project d)
    else elements_of (variables_of_units is_initialised (units_of project d.in_module))
    + elements_of (variables_before is_uninitialised project d)

-- The address of a variable, a doubleword for each element.
abbrev pub variable_address : Project → Definition → ℕ
variable_address project d =
    data_of d.in_module + 8 * (length (slots_of project d.in_module) + elements_before project d)

-- ---- what names mean

-- The address of what a name means; of an unbound name, which no project that is run uses, 0.
abbrev pub entity_address : Project → Option Entity → ℕ
entity_address project (Some (function d)) = function_address project d
entity_address project (Some (object d)) = variable_address project d
entity_address project None = 0

-- The address that an `address` in a unit's code computes: of the name's slot, or of the unit's own definition.
abbrev pub target_address : Project → (m u : ℕ) → Ref → ℕ
target_address project m u (Global name) = slot_address project m name
target_address project m u (LocalFun i) = function_address project (record { in_module = m; in_unit = u; number = i })
target_address project m u (LocalVar i) = variable_address project (record { in_module = m; in_unit = u; number = i })
