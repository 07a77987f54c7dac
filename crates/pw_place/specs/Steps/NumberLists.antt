-- The numbers of static definitions, as lists.
use Rattle.std.specs.Prelude.{◌≡◌, ℕ, ◌+◌, ◌<◌, ◌^◌, Bool, not, cond, List, [], ◌∷◌, length, sum_by}
use Rattle.pw_base.specs.Limits.{module_names}
use Rattle.pw_base.specs.declared.kinds.Kind.{Kind}
use Rattle.pw_tree.specs.declared.tunit.TVar.{TVar}
use Rattle.pw_code.specs.declared.object.FunCode.{FunCode}
use Rattle.pw_code.specs.declared.object.Object.{Object}
use Rattle.pw_place.specs.Symbols.{first_static, static_functions, static_variables, static_definitions}
use Rattle.pw_place.specs.declared.symbol_numbers.UnitNumbers.{UnitNumbers}

-- Is the function static?
abbrev pub is_static_function : FunCode → Bool
is_static_function f = not f.global

-- Is the variable static?
abbrev pub is_static_variable : TVar → Bool
is_static_variable x = not x.global

-- The next number after that of a definition, which counts where it is static.
abbrev pub number_after : (next : ℕ) → (is_static : Bool) → ℕ
number_after next is_static = next + cond is_static 1 0

-- The numbers of definitions, of which the static ones are counted, from the first number on.
abbrev pub numbers_from : {A : Type 0} → (A → Bool) → (first : ℕ) → List A → List ℕ
numbers_from is_static first [] = []
numbers_from is_static first (x ∷ xs) = first ∷ numbers_from is_static (number_after first (is_static x)) xs

-- How many static definitions a unit has.
abbrev pub static_in : Object → ℕ
static_in o = static_functions o.funs + static_variables o.vars

-- The numbers of a unit's definitions, and of all units'.
abbrev pub unit_numbers : (first : ℕ) → Object → UnitNumbers
unit_numbers first o = record {
  functions = numbers_from is_static_function first o.funs;
  variables = numbers_from is_static_variable (first + static_functions o.funs) o.vars;
}

-- The numbers of all units, where the first unit begins with this number.
abbrev pub all_numbers : (first : ℕ) → List Object → List UnitNumbers
all_numbers first [] = []
all_numbers first (o ∷ os) = unit_numbers first o ∷ all_numbers (first + static_in o) os

-- How many definitions a unit has, and all units.
abbrev pub definitions_in : Object → ℕ
definitions_in o = length o.funs + length o.vars

-- How many definitions some units have.
abbrev pub all_definitions : List Object → ℕ
all_definitions objects = sum_by definitions_in objects

-- These are the numbers of the symbols of objects: of the units' static definitions, and of the first external name. No number
-- of a symbol is too great for its type.
pub record AreSymbolNumbers (kind : Kind) (objects : List Object) (units : List UnitNumbers) (first_external : ℕ) : Type 0 where
  pub of_units : units ≡ all_numbers (first_static kind) objects
  pub of_external : first_external ≡ first_static kind + static_definitions objects
  pub few : first_external + module_names < 2 ^ 32
