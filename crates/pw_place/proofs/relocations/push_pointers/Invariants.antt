-- The relocations of the pointers so far are appended, and those that are left have places.
use Rattle.std.proofs.Common.{◌≡◌, ◌++◌, map, take, drop}
use Rattle.std.specs.List.{AllByRecursion}
use Rattle.pw_place.specs.Contents.{pointer_relocation}
use Rattle.pw_place.specs.Steps.PointerPlaces.{pointer_of, IsPlacedPointer}
use Rattle.pw_place.proofs.relocations.push_pointers.Given as goal

abbrev pub invariant-loop-pointer : goal.invariant-loop-pointer
invariant-loop-pointer l = record {
  made :
      l.to
      ≡ l.fn.to
      ++ map (pointer_relocation l.numbers.places.now.kind l.numbers.places.now.objects.now)
      (map pointer_of (take l.pointer-index l.pointers));
  left : AllByRecursion (IsPlacedPointer l.numbers.places.now.objects.now) (map pointer_of (drop l.pointer-index l.pointers));
}
