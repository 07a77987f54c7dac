-- The symbols of a module, and their numbers (gABI, "Symbol Table").
use Rattle.std.specs.Prelude.{ℕ, ◌+◌, true, false, not, ◌&&◌, if◌then◌else◌, List, [], ◌∷◌, ◌++◌, map, length, take, filter, flat_map, find, sum_by, count_by, bytes_eq, codes, Option, Some, None}
use Rattle.std.specs.List.{enumerate_from}
use Rattle.std.specs.Option.{option_map_or}
use Rattle.pw_base.specs.declared.kinds.Kind.{Kind}
use Rattle.pw_base.specs.declared.kinds.Kind.TheVariants.{Program, Library}
use Rattle.pw_tree.specs.declared.ty.Ref.{Ref}
use Rattle.pw_tree.specs.declared.ty.Ref.TheVariants.{Global, LocalFun, LocalVar}
use Rattle.pw_tree.specs.declared.tunit.TVar.{TVar}
use Rattle.pw_tree.specs.declared.tunit.Ext.{Ext}
use Rattle.pw_tree.specs.TypeTexts.{text_of_variable}
use Rattle.pw_code.specs.declared.object.FunCode.{FunCode}
use Rattle.pw_code.specs.declared.object.Object.{Object}
use Rattle.pw_module.specs.declared.symbol.Symbol.{Symbol}
use Rattle.pw_module.specs.declared.symbol.SymKind.{SymKind}
use Rattle.pw_module.specs.declared.symbol.SymKind.TheVariants.{Fun, Var, Undefined}
use Rattle.pw_place.specs.Sizes.{code_bytes, function_bytes, variable_bytes, entry_items}
use Rattle.pw_place.specs.Names.{external_names, name_number}
use Rattle.pw_place.specs.Places.{functions_in, variables_in, function_start, variable_start}

-- ---- the symbols

-- The symbol of a function of a unit, and of a variable; each comes with its number.
abbrev pub function_symbol : Kind → List Object → (unit : ℕ) → ℕ × FunCode → Symbol
function_symbol kind objects unit (i, f) = record {
  name = f.name;
  global = f.global;
  kind = Fun (function_start kind objects unit i) (function_bytes f);
  text = f.text;
}

-- The symbol of a variable, which comes with its number in the unit.
abbrev pub variable_symbol : Kind → List Object → (unit : ℕ) → ℕ × TVar → Symbol
variable_symbol kind objects unit (i, x) = record {
  name = x.name;
  global = x.global;
  kind = Var (variable_start kind objects unit i) (variable_bytes x);
  text = text_of_variable x.ty x.count;
}

-- The symbols of a unit's definitions: its functions, then its variables.
abbrev pub unit_symbols : Kind → List Object → ℕ × Object → List Symbol
unit_symbols kind objects (unit, o) =
    map (function_symbol kind objects unit) (enumerate_from 0 o.funs)
    ++ map (variable_symbol kind objects unit) (enumerate_from 0 o.vars)

-- The symbols of all definitions, unit by unit.
abbrev pub defined_symbols : Kind → List Object → List Symbol
defined_symbols kind objects = flat_map (unit_symbols kind objects) (enumerate_from 0 objects)

-- The symbols of static definitions.
abbrev pub static_symbols : Kind → List Object → List Symbol
static_symbols kind objects = filter (λ s. not s.global) (defined_symbols kind objects)

-- What an external name stands for: its definition, or nothing of this module.
abbrev pub kind_of_name : Kind → List Object → List ℕ → SymKind
kind_of_name kind objects name =
    option_map_or (λ s. s.kind) (find (λ s. s.global && bytes_eq s.name name) (defined_symbols kind objects)) Undefined

-- The symbol of an external name.
abbrev pub external_symbol : Kind → List Object → Ext → Symbol
external_symbol kind objects n =
    record { name = n.name; global = true; kind = kind_of_name kind objects n.name; text = n.text }

-- The symbol of a program's entry.
abbrev pub entry_symbols : Kind → List Symbol
entry_symbols Program =
    record { name = codes "_start"; global = false; kind = Fun 0 (code_bytes (entry_items Program)); text = codes "v()" } ∷ []
entry_symbols Library = []

-- The symbols of a module: the null one, the entry's, those of static definitions, and those of external names.
abbrev pub symbols : Kind → List Object → List (Option Symbol)
symbols kind objects =
    None ∷ map Some
    (entry_symbols kind ++ static_symbols kind objects ++ map (external_symbol kind objects) (external_names objects))

-- ---- their numbers

-- the static definitions among these
abbrev pub static_functions : List FunCode → ℕ
static_functions fs = count_by (λ f. not f.global) fs

-- How many of some variables are static.
abbrev pub static_variables : List TVar → ℕ
static_variables xs = count_by (λ x. not x.global) xs

-- How many static definitions some units have.
abbrev pub static_definitions : List Object → ℕ
static_definitions objects = sum_by (λ o. static_functions o.funs + static_variables o.vars) objects

-- The first number after the null symbol and the entry's.
abbrev pub first_static : Kind → ℕ
first_static kind = 1 + length (entry_symbols kind)

-- A static definition's number: before it stand those of the units before, and of its own unit the functions before it, or
-- all functions and the variables before it.
abbrev pub static_function_number : Kind → List Object → (unit i : ℕ) → ℕ
static_function_number kind objects unit i =
    first_static kind + static_definitions (take unit objects) + static_functions (take i (functions_in objects unit))

-- The number of the symbol of a static variable: those of its unit stand after the unit's static functions.
abbrev pub static_variable_number : Kind → List Object → (unit i : ℕ) → ℕ
static_variable_number kind objects unit i =
    first_static kind + static_definitions (take unit objects) + static_functions (functions_in objects unit)
    + static_variables (take i (variables_in objects unit))

-- The number of an external name's symbol.
abbrev pub external_number : Kind → List Object → List ℕ → ℕ
external_number kind objects name = first_static kind + static_definitions objects + name_number objects name

-- The number of the symbol that a unit's reference means.
abbrev pub symbol_number : Kind → List Object → (unit : ℕ) → Ref → ℕ
symbol_number kind objects unit (Global name) = external_number kind objects name
symbol_number kind objects unit (LocalFun i) = static_function_number kind objects unit i
symbol_number kind objects unit (LocalVar i) = static_variable_number kind objects unit i

-- The reference that means a function of a unit, and a variable: by its name, where its linkage is external.
abbrev pub ref_of_function : (i : ℕ) → FunCode → Ref
ref_of_function i f = if f.global then Global f.name else LocalFun i

-- What refers to a variable: its name, or its number where it is static.
abbrev pub ref_of_variable : (i : ℕ) → TVar → Ref
ref_of_variable i x = if x.global then Global x.name else LocalVar i
