-- The law that a well-typed unit compiles to a sound object.
use Rattle.std.specs.Prelude.{ℕ, List}
use Rattle.pw_tree.specs.Units.{TypedUnit}
use Rattle.pw_tree.specs.WellTypedUnits.{IsWellTyped}
use Rattle.pw_code.specs.Objects.{object_of}
use Rattle.pw_code.specs.Soundness.{IsSound}

-- The object of a well-typed unit is sound, whatever the unit's name.
abbrev pub ObjectsAreSound : Type 0
ObjectsAreSound = (name : List ℕ) (unit : TypedUnit) → IsWellTyped unit → IsSound (object_of name unit)
