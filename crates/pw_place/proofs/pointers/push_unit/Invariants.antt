-- The pointers so far are appended, and the variables that are left are sound.
use Rattle.std.proofs.Common.{◌≡◌, ◌++◌, map, take, drop}
use Rattle.std.specs.List.{flat_map, enumerate_from, AllByRecursion}
use Rattle.pw_code.specs.Soundness.{IsSoundVariable}
use Rattle.pw_place.specs.Contents.{pointers_in_variable}
use Rattle.pw_place.specs.Steps.PointerPlaces.{pointer_of}
use Rattle.pw_place.proofs.pointers.push_unit.Given as goal

abbrev pub invariant-loop-i : goal.invariant-loop-i
invariant-loop-i l = record {
  made :
      map pointer_of l.to
      ≡ map pointer_of l.fn.to
      ++ flat_map (pointers_in_variable l.places.kind l.places.objects.now l.unit) (enumerate_from 0 (take l.i l.object.vars));
  left : AllByRecursion (IsSoundVariable l.object) (drop l.i l.object.vars);
}
