-- The answers to the goals of `fault_words` in `src/checks.rt`.
use Rattle.std.proofs.Common.{◌<◌, ◌^◌, arith}
use Rattle.pw_code.proofs.Exports.{line_words_at_most}
use Rattle.pw_genexpr.proofs.checks.fault_words.Goals as goal

pub returns-clause-few : goal.returns-clause-few
returns-clause-few c =
    let small : c.from.result < 2 ^ 32 = omega arith in
    omega (arith, line_words_at_most c.from.result small)
