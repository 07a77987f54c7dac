-- The answers to the goals of `constant` in `src/primary.rt`.
use Rattle.std.proofs.Common.{rules, arith}
use Rattle.std.proofs.lemmas.Grind.{common_steps}
use Rattle.pw_parse.proofs.Leaves.{constant_read}
use Rattle.pw_parse.proofs.primary.constant.Goals as goal

pub returns : goal.returns
returns c =
    let e = constant_read c.args.cursor.now c.value.new.self (c.in_ok-value.value, c.in_ok-value.unsigned) c.line-line.result c.in_ok-value.ensures c.line-line.ensures in
    first_of (search rules, grind (arith, common_steps))
