-- The records of one more unit are appended.
use Rattle.std.proofs.Common.{◌∙◌, ◌++◌, ap, map}
use Rattle.std.specs.List.{enumerate_from}
use Rattle.pw_code.specs.Soundness.{IsSound}
use Rattle.pw_place.specs.Tables.{entry_records, unit_records, function_record}
use Rattle.pw_place.proofs.Numbered.{numbered_step, next_of_all}
use Rattle.pw_place.proofs.records.function_records.Goals as goal

pub loop-unit-preserved : goal.loop-unit-preserved
loop-unit-preserved c =
    let places = c.args.numbers.now.places.now in
    let record_of = function_record places.kind places.objects.now c.loop-unit.unit in
    record {
      made = numbered_step (unit_records places.kind places.objects.now) places.objects.now c.loop-unit.unit c.object-item.result
          (entry_records places.kind places.objects.now) _ _ c.loop-unit-test.true c.object-item.is c.loop-unit.invariant.made
          (c.in_ok-push_unit.ensures ∙ ap (λ fs. c.loop-unit.found ++ map record_of (enumerate_from 0 fs)) c.as_slice.ensures);
      left = (next_of_all IsSound places.objects.now c.loop-unit.unit c.object-item.result c.loop-unit-test.true c.object-item.is
          c.loop-unit.invariant.left).1;
    }
