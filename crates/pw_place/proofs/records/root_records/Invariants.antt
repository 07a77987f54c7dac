-- The records so far are those of the first pointers, and those that are left have places.
use Rattle.std.proofs.Common.{◌≡◌, map, take, drop}
use Rattle.std.specs.List.{AllByRecursion}
use Rattle.pw_place.specs.Tables.{root_record}
use Rattle.pw_place.specs.Steps.PointerPlaces.{pointer_of, IsPlacedPointer}
use Rattle.pw_place.proofs.records.root_records.Given as goal

abbrev pub invariant-loop-p : goal.invariant-loop-p
invariant-loop-p l = record {
  made : l.roots ≡ map (root_record l.numbers.places.now.kind l.numbers.places.now.objects.now) (map pointer_of (take l.p-index l.pointers));
  left : AllByRecursion (λ p. IsPlacedPointer l.numbers.places.now.objects.now (pointer_of p)) (drop l.p-index l.pointers);
}
