-- The words of the functions so far are appended, and what is left has places.
use Rattle.std.proofs.Common.{◌≡◌, ◌++◌, take, drop}
use Rattle.std.specs.List.{flat_map, enumerate_from, AllByRecursion}
use Rattle.pw_place.specs.Contents.{words_of_function}
use Rattle.pw_place.specs.Steps.PlacedItems.{IsPlacedFunction}
use Rattle.pw_place.proofs.text.put_unit.Given as goal

abbrev pub invariant-loop-i : goal.invariant-loop-i
invariant-loop-i l = record {
  written :
      l.words
      ≡ l.fn.words
      ++ flat_map (words_of_function l.places.kind l.places.objects.now l.unit) (enumerate_from 0 (take l.i l.object.funs));
  left : AllByRecursion (IsPlacedFunction l.places.objects.now l.unit) (drop l.i l.object.funs);
}
