-- Laws of whole texts: a text has one typed unit or one fault, and not both.
use Rattle.std.specs.Prelude.{◌≡◌, ◌≢◌}
use Rattle.pw_lex.specs.Bytes.{Text}
use Rattle.pw_tree.specs.declared.tunit.TUnit.{TUnit}
use Rattle.pw_tree.specs.Units.{unit_of}
use Rattle.pw_front.specs.declared.error.FrontError.{FrontError}
use Rattle.pw_front.specs.declared.error.FrontError.TheVariants.{NoMemory}
use Rattle.pw_front.specs.Units.{IsTypedUnitOf, FaultOf}

-- a text has one typed unit at most
abbrev pub OneTypedUnit : Type 0
OneTypedUnit = (text : Text) (a b : TUnit) → IsTypedUnitOf text a → IsTypedUnitOf text b → unit_of a ≡ unit_of b

-- and a typed unit or a fault, not both
abbrev pub UnitOrFault : Type 0
UnitOrFault = (text : Text) (unit : TUnit) (fault : FrontError) → IsTypedUnitOf text unit → fault ≢ NoMemory → ¬ FaultOf text fault

-- and one fault at most, but for out of memory
abbrev pub OneFault : Type 0
OneFault = (text : Text) (a b : FrontError) → FaultOf text a → FaultOf text b → a ≢ NoMemory → b ≢ NoMemory → a ≡ b
