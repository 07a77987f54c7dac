-- The records so far are appended, and what the functions that are left depend on has places.
use Rattle.std.proofs.Common.{◌≡◌, ◌++◌, map, take, drop}
use Rattle.std.specs.List.{enumerate_from, AllByRecursion}
use Rattle.pw_place.specs.Tables.{function_record}
use Rattle.pw_place.specs.Steps.PlacedFunctions.{HasPlacedDependencies}
use Rattle.pw_place.proofs.records.push_unit.Given as goal

abbrev pub invariant-loop-i : goal.invariant-loop-i
invariant-loop-i l = record {
  made :
      l.to
      ≡ l.fn.to
      ++ map (function_record l.numbers.places.now.kind l.numbers.places.now.objects.now l.unit) (enumerate_from 0 (take l.i l.functions));
  left : AllByRecursion (HasPlacedDependencies l.numbers.places.now.objects.now l.unit) (drop l.i l.functions);
}
