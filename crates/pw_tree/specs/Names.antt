-- What a name designates in a project (C17, 6.2.2; gABI, symbol resolution).
use Rattle.std.specs.Prelude.{ℕ, ◌+◌, Bool, true, ◌&&◌, List, [], ◌∷◌, Option, Some, None, nat_eq, bytes_eq, slice_get, option_map, option_and_then}
use Rattle.std.specs.Option.{option_or}
use Rattle.pw_tree.specs.Units.{Function, TypedUnit}
use Rattle.pw_tree.specs.TypeTexts.{text_of_function, text_of_variable}
use Rattle.pw_tree.specs.declared.ty.Ref.{Ref}
use Rattle.pw_tree.specs.declared.ty.Ref.TheVariants.{Global, LocalFun, LocalVar}
use Rattle.pw_tree.specs.declared.tunit.TVar.{TVar}

-- The modules of a project in load order, the program first, each with its units in order.
abbrev pub Project : Type 0
Project = List (List TypedUnit)

-- A definition of a function or of a variable: its module's number in the load order, its unit's in the module,
-- and its own among the unit's functions or among its variables.
pub record Definition : Type 0 where
  pub in_module : ℕ
  pub in_unit : ℕ
  pub number : ℕ

-- Two definitions are one.
abbrev pub same_definition : Definition → Definition → Bool
same_definition d e = nat_eq d.in_module e.in_module && nat_eq d.in_unit e.in_unit && nat_eq d.number e.number

-- What a name designates: a function, or in C's word an object, here a variable.
pub data Entity : Type 0 where
  function : Definition → Entity
  object : Definition → Entity

-- What `seek` finds in the first item in which it finds something; it is given the item's number, from n on.
abbrev pub first_found : {A B : Type 0} → (ℕ → A → Option B) → ℕ → List A → Option B
first_found seek n [] = None
first_found seek n (item ∷ items) = option_or (seek n item) (first_found seek (n + 1) items)

-- A definition counts under a name where it has that name and external linkage.
abbrev pub found : Bool → Bool → Entity → Option Entity
found true true entity = Some entity
found _ _ entity = None

-- The function of a unit, or else its variable, that defines a name externally.
abbrev pub defined_in_unit : List ℕ → ℕ → ℕ → TypedUnit → Option Entity
defined_in_unit name m u unit = option_or
    (first_found (λ i f. found f.global (bytes_eq f.name name) (function (record { in_module = m; in_unit = u; number = i }))) 0 unit.functions)
    (first_found (λ i x. found x.global (bytes_eq x.name name) (object (record { in_module = m; in_unit = u; number = i }))) 0 unit.variables)

-- A name with external linkage designates its definition in the first module of the load order that defines it.
abbrev pub definition_of : Project → List ℕ → Option Entity
definition_of project name = first_found (λ m units. first_found (defined_in_unit name m) 0 units) 0 project

-- In a unit, a static name designates the unit's own definition, and every other name as `definition_of` says.
abbrev pub resolved : Project → ℕ → ℕ → Ref → Option Entity
resolved project m u (Global name) = definition_of project name
resolved project m u (LocalFun i) = Some (function (record { in_module = m; in_unit = u; number = i }))
resolved project m u (LocalVar i) = Some (object (record { in_module = m; in_unit = u; number = i }))

-- The unit of a definition.
abbrev pub unit_at : Project → Definition → Option TypedUnit
unit_at project d = option_and_then (λ units. slice_get units d.in_unit) (slice_get project d.in_module)

-- The function that a definition is.
abbrev pub function_at : Project → Definition → Option Function
function_at project d = option_and_then (λ unit. slice_get unit.functions d.number) (unit_at project d)

-- The variable that a definition is.
abbrev pub variable_at : Project → Definition → Option TVar
variable_at project d = option_and_then (λ unit. slice_get unit.variables d.number) (unit_at project d)

-- The text of the type of what a name designates.
abbrev pub text_at : Project → Entity → Option (List ℕ)
text_at project (function d) = option_map (λ f. text_of_function f.sig) (function_at project d)
text_at project (object d) = option_map (λ x. text_of_variable x.ty x.count) (variable_at project d)
