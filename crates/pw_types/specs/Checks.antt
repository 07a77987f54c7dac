-- What checking a unit answers.
use Rattle.std.specs.Prelude.{◌≡◌, ℕ, List, [], Option, Some, Result, Ok, Err, ⊤, slice_index_or}
use Rattle.pw_base.specs.declared.pos.Pos.{Pos}
use Rattle.pw_tree.specs.declared.tunit.TUnit.{TUnit}
use Rattle.pw_tree.specs.declared.decl.Unit.{Unit}
use Rattle.pw_tree.specs.Declarations.{UntypedUnit, untyped_unit_of}
use Rattle.pw_tree.specs.Units.{TypedUnit, unit_of}
use Rattle.pw_types.specs.declared.error.TypeError.{TypeError}
use Rattle.pw_types.specs.declared.error.TypeError.TheVariants.{Broken, NoMemory}
use Rattle.pw_types.specs.declared.rule.Rule.{Rule}
use Rattle.pw_types.specs.declared.fault.Fault.{Fault}
use Rattle.pw_types.specs.Faults.{first_of}
use Rattle.pw_types.specs.Nests.{faults_of}
use Rattle.pw_types.specs.Units.{typed_unit}

-- The list's first fault is this one: its rule, its phrase's last token with the token's line, and the name.
pub record IsFirst (unit : UntypedUnit) (rule : Rule) (at : Pos) (name : Option (List ℕ)) : Type 0 where
  pub fault : Fault
  pub first : first_of (faults_of unit) ≡ Some fault
  pub rule_is : rule ≡ fault.rule
  pub token_is : at.token ≡ fault.at
  pub line_is : at.line ≡ slice_index_or unit.lines fault.at 0
  pub name_is : name ≡ fault.name

-- the unit is well typed, and this is its typed unit
pub record IsTyped (unit : UntypedUnit) (typed : TypedUnit) : Type 0 where
  pub no_fault : faults_of unit ≡ []
  pub is : typed ≡ typed_unit unit

-- the typed unit, or exactly the first fault; out of memory says nothing
abbrev pub Checks : Unit → Result TUnit TypeError → Type 0
Checks unit (Ok typed) = IsTyped (untyped_unit_of unit) (unit_of typed)
Checks unit (Err (Broken rule at name)) = IsFirst (untyped_unit_of unit) rule at name
Checks unit (Err NoMemory) = ⊤
