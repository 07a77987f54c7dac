-- The symbols of one more unit are appended.
use Rattle.pw_code.specs.Soundness.{IsSound}
use Rattle.pw_place.specs.Symbols.{unit_symbols}
use Rattle.pw_place.proofs.Numbered.{numbered_next, next_of_all}
use Rattle.pw_place.proofs.definitions.defined_symbols.Goals as goal

pub loop-unit-preserved : goal.loop-unit-preserved
loop-unit-preserved c =
    let places = c.args.places.now in
    record {
      made = numbered_next (unit_symbols places.kind places.objects.now) places.objects.now c.loop-unit.unit c.object-item.result
          _ _ c.loop-unit-test.true c.object-item.is c.loop-unit.invariant.made c.in_ok-push_unit.ensures;
      left = (next_of_all IsSound places.objects.now c.loop-unit.unit c.object-item.result c.loop-unit-test.true c.object-item.is c.loop-unit.invariant.left).1;
    }
