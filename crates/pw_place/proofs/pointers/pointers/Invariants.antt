-- The pointers so far are those of the first units, and the units that are left are sound.
use Rattle.std.proofs.Common.{◌≡◌, map, take, drop}
use Rattle.std.specs.List.{flat_map, enumerate_from, AllByRecursion}
use Rattle.pw_code.specs.Soundness.{IsSound}
use Rattle.pw_place.specs.Contents.{pointers_in_unit}
use Rattle.pw_place.specs.Steps.PointerPlaces.{pointer_of}
use Rattle.pw_place.proofs.pointers.pointers.Given as goal

abbrev pub invariant-loop-unit : goal.invariant-loop-unit
invariant-loop-unit l = record {
  made :
      map pointer_of l.found
      ≡ flat_map (pointers_in_unit l.places.kind l.places.objects.now) (enumerate_from 0 (take l.unit l.places.objects.now));
  left : AllByRecursion IsSound (drop l.unit l.places.objects.now);
}
