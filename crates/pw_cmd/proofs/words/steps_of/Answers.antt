-- Each digit follows the number of those before it.
use Rattle.pw_cmd.proofs.Digits.{one_more}
use Rattle.pw_cmd.proofs.words.steps_of.Goals as goal

pub loop-digit-preserved : goal.loop-digit-preserved
loop-digit-preserved c =
    one_more c.args.word.now c.loop-digit.digit-index c.from.result c.loop-digit.steps
    c.loop-digit-test.true c.from.ensures c.if-digit-lt48.false c.if-digit-gt57.false c.loop-digit.invariant
