-- The records so far are the entry's and those of the first units, and the units that are left are sound.
use Rattle.std.proofs.Common.{◌≡◌, ◌++◌, take, drop}
use Rattle.std.specs.List.{flat_map, enumerate_from, AllByRecursion}
use Rattle.pw_code.specs.Soundness.{IsSound}
use Rattle.pw_place.specs.Tables.{entry_records, unit_records}
use Rattle.pw_place.proofs.records.function_records.Given as goal

abbrev pub invariant-loop-unit : goal.invariant-loop-unit
invariant-loop-unit l = record {
  made :
      l.found
      ≡ entry_records l.numbers.places.now.kind l.numbers.places.now.objects.now
      ++ flat_map (unit_records l.numbers.places.now.kind l.numbers.places.now.objects.now)
      (enumerate_from 0 (take l.unit l.numbers.places.now.objects.now));
  left : AllByRecursion IsSound (drop l.unit l.numbers.places.now.objects.now);
}
