-- Where each function, slot and variable of a module stands. A definition goes by the number of its unit, and by its own among
-- the functions, or among the variables, of that unit's object.
use Rattle.std.specs.Prelude.{ℕ, ◌+◌, ◌*◌, true, if◌then◌else◌, List, [], ◌∷◌, ◌++◌, length, take, filter, flat_map, sum_by, bytes_eq, slice_get}
use Rattle.std.specs.List.{position_or_len}
use Rattle.std.specs.Option.{option_map_or}
use Rattle.pw_base.specs.Limits.{text_offset, data_offset}
use Rattle.pw_base.specs.declared.kinds.Kind.{Kind}
use Rattle.pw_tree.specs.declared.ty.Ref.{Ref}
use Rattle.pw_tree.specs.declared.ty.Ref.TheVariants.{Global, LocalFun, LocalVar}
use Rattle.pw_tree.specs.declared.tunit.TVar.{TVar}
use Rattle.pw_code.specs.declared.item.Item.{Item}
use Rattle.pw_code.specs.declared.item.Item.TheVariants.{Addr}
use Rattle.pw_code.specs.declared.object.FunCode.{FunCode}
use Rattle.pw_code.specs.declared.object.Object.{Object}
use Rattle.pw_code.specs.Objects.{is_initialised, is_uninitialised}
use Rattle.pw_place.specs.Sizes.{code_bytes, function_bytes, variable_bytes, doubleword_bytes, entry_items}
use Rattle.pw_place.specs.Names.{first_of_each}

-- ---- the definitions of some units, in order of units and definition, and of one unit

-- The functions of some units.
abbrev pub functions : List Object → List FunCode
functions objects = flat_map (λ o. o.funs) objects

-- The variables of some units.
abbrev pub variables : List Object → List TVar
variables objects = flat_map (λ o. o.vars) objects

-- The functions of the unit of this number.
abbrev pub functions_in : List Object → (unit : ℕ) → List FunCode
functions_in objects unit = option_map_or (λ o. o.funs) (slice_get objects unit) []

-- The variables of the unit of this number.
abbrev pub variables_in : List Object → (unit : ℕ) → List TVar
variables_in objects unit = option_map_or (λ o. o.vars) (slice_get objects unit) []

-- The definitions of a module that stand before one of them.
abbrev pub functions_before : List Object → (unit i : ℕ) → List FunCode
functions_before objects unit i = functions (take unit objects) ++ take i (functions_in objects unit)

-- The variables of a module that stand before one of them.
abbrev pub variables_before : List Object → (unit i : ℕ) → List TVar
variables_before objects unit i = variables (take unit objects) ++ take i (variables_in objects unit)

-- ---- the text

-- A function stands right after the entry and the functions before it: how many bytes after the start of the text.
abbrev pub function_start : Kind → List Object → (unit i : ℕ) → ℕ
function_start kind objects unit i =
    code_bytes (entry_items kind) + sum_by function_bytes (functions_before objects unit i)

-- The bytes of all text.
abbrev pub text_size : Kind → List Object → ℕ
text_size kind objects = code_bytes (entry_items kind) + sum_by function_bytes (functions objects)

-- ---- the slots: doublewords that hold the addresses of external names (gABI, "Global Offset Table")

-- The external name that an item refers to.
abbrev pub names_in_item : Item → List (List ℕ)
names_in_item (Addr rd (Global name)) = name ∷ []
names_in_item _ = []

-- The items of a module, in order of the text.
abbrev pub text_items : Kind → List Object → List Item
text_items kind objects = entry_items kind ++ flat_map (λ f. f.items) (functions objects)

-- The names that have a slot, in order of first reference: the data begin with their slots.
abbrev pub slot_names : Kind → List Object → List (List ℕ)
slot_names kind objects = first_of_each bytes_eq (flat_map names_in_item (text_items kind objects))

-- The bytes of all slots.
abbrev pub slots_size : Kind → List Object → ℕ
slots_size kind objects = doubleword_bytes * length (slot_names kind objects)

-- Where a name's slot stands: how many bytes after the start of the data.
abbrev pub slot_start : Kind → List Object → List ℕ → ℕ
slot_start kind objects name = doubleword_bytes * position_or_len (bytes_eq name) (slot_names kind objects)

-- ---- the variables: after the slots those with an initialiser, and then the others (gABI, `.data` and `.bss`)

-- The bytes of those variables that have an initialiser.
abbrev pub initialised_size : List TVar → ℕ
initialised_size xs = sum_by variable_bytes (filter is_initialised xs)

-- The bytes of those that have none.
abbrev pub uninitialised_size : List TVar → ℕ
uninitialised_size xs = sum_by variable_bytes (filter is_uninitialised xs)

-- Where a variable stands: how many bytes after the start of the data.
abbrev pub variable_start : Kind → List Object → (unit i : ℕ) → ℕ
variable_start kind objects unit i =
    if option_map_or is_initialised (slice_get (variables_in objects unit) i) true
    then slots_size kind objects + initialised_size (variables_before objects unit i)
    else slots_size kind objects + initialised_size (variables objects) + uninitialised_size (variables_before objects unit i)

-- ---- references

-- What the code of a unit reaches by a reference, from the module's base: the slot of an external name, and the definition
-- itself of a static one.
abbrev pub target : Kind → List Object → (unit : ℕ) → Ref → ℕ
target kind objects unit (Global name) = data_offset + slot_start kind objects name
target kind objects unit (LocalFun i) = text_offset + function_start kind objects unit i
target kind objects unit (LocalVar i) = data_offset + variable_start kind objects unit i
