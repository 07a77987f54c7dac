-- Pointers as the code has them.
use Rattle.std.specs.Prelude.{◌<◌, List, length}
use Rattle.pw_code.specs.declared.object.Object.{Object}
use Rattle.pw_place.specs.Contents.{Pointer}
use Rattle.pw_place.specs.Steps.PlaceLists.{IsPlacedRef}
use Rattle.pw_place.specs.declared.pointers.PointerPlace.{PointerPlace}

-- The pointer that the code has so.
abbrev pub pointer_of : PointerPlace → Pointer
pointer_of p = record { unit = p.unit; variable = p.variable; at = p.at; function = p.function }

-- A pointer stands in a variable that has a place, of a unit that is there, and is to a function that has one.
pub record IsPlacedPointer (objects : List Object) (p : Pointer) : Type 0 where
  pub of_unit : p.unit < length objects
  pub stands : IsPlacedRef objects p.unit p.variable
  pub names : IsPlacedRef objects p.unit p.function
