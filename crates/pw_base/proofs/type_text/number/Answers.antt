-- Each digit follows the number of those before it.
use Rattle.pw_base.proofs.Sizes.{numeral_parts, numeral_start, numeral_step}
use Rattle.pw_base.proofs.type_text.number.Goals as goal

pub loop-digit-init : goal.loop-digit-init
loop-digit-init c =
    let parts = numeral_parts c.args.first c.args.more.now c.requires in
    numeral_start c.args.first c.from-number.result parts.0 parts.1 c.from-number.ensures

pub loop-digit-preserved : goal.loop-digit-preserved
loop-digit-preserved c =
    let parts = numeral_parts c.args.first c.args.more.now c.requires in
    numeral_step c.args.first c.args.more.now c.loop-digit.digit-index c.loop-digit.number c.from.result
    parts.2 parts.3 c.loop-digit-test.true c.from.ensures c.loop-digit.invariant
