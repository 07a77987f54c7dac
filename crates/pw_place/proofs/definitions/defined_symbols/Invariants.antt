-- The symbols so far are those of the first units, and the units that are left are sound.
use Rattle.std.proofs.Common.{◌≡◌, take, drop}
use Rattle.std.specs.List.{flat_map, enumerate_from, AllByRecursion}
use Rattle.pw_code.specs.Soundness.{IsSound}
use Rattle.pw_place.specs.Symbols.{unit_symbols}
use Rattle.pw_place.proofs.definitions.defined_symbols.Given as goal

abbrev pub invariant-loop-unit : goal.invariant-loop-unit
invariant-loop-unit l = record {
  made :
      l.defined ≡ flat_map (unit_symbols l.places.kind l.places.objects.now) (enumerate_from 0 (take l.unit l.places.objects.now));
  left : AllByRecursion IsSound (drop l.unit l.places.objects.now);
}
