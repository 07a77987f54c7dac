-- The words of one more unit are appended.
use Rattle.pw_code.specs.Soundness.{IsSound}
use Rattle.pw_place.specs.Contents.{words_of_unit}
use Rattle.pw_place.proofs.Numbered.{numbered_step, next_of_all}
use Rattle.pw_place.proofs.text.text_words.Goals as goal

pub loop-unit-preserved : goal.loop-unit-preserved
loop-unit-preserved c =
    let kind = c.args.places.now.kind in
    let objects = c.args.places.now.objects.now in
    let unit = c.loop-unit.unit in
    let low = c.loop-unit-test.true in
    let there = c.object-item.is in
    record {
      written =
          numbered_step (words_of_unit kind objects) objects unit c.object-item.result _ _ _
          low there c.loop-unit.invariant.written c.in_ok-put_unit.ensures;
      left = (next_of_all IsSound objects unit c.object-item.result low there c.loop-unit.invariant.left).1;
    }
