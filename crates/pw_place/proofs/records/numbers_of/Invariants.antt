-- The numbers so far, and that what is left has places.
use Rattle.std.proofs.Common.{◌≡◌, map, take, drop}
use Rattle.std.specs.List.{AllByRecursion}
use Rattle.pw_place.specs.Symbols.{symbol_number}
use Rattle.pw_place.specs.Steps.PlaceLists.{IsPlacedRef}
use Rattle.pw_place.proofs.records.numbers_of.Given as goal

abbrev pub invariant-loop-to : goal.invariant-loop-to
invariant-loop-to l = record {
  made : l.found ≡ map (symbol_number l.numbers.places.now.kind l.numbers.places.now.objects.now l.unit) (take l.to-index l.references);
  left : AllByRecursion (IsPlacedRef l.numbers.places.now.objects.now l.unit) (drop l.to-index l.references);
}
