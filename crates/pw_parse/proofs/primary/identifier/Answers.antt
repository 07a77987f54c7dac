-- The answers to the goals of `identifier` in `src/primary.rt`.
use Rattle.std.proofs.Common.{rules, arith}
use Rattle.std.proofs.lemmas.Grind.{common_steps}
use Rattle.pw_parse.proofs.Leaves.{name_read}
use Rattle.pw_parse.proofs.primary.identifier.Goals as goal

pub returns : goal.returns
returns c =
    let e = name_read c.args.cursor.now c.name.new.self c.in_ok-name.name c.line-line.result c.in_ok-name.ensures c.line-line.ensures in
    first_of (search rules, grind (arith, common_steps))
