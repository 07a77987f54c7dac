-- The answers to the goals of `check_index_words` in `src/checks.rt`.
use Rattle.std.proofs.Common.{◌<◌, ◌^◌, arith}
use Rattle.pw_code.proofs.Exports.{size_words_at_most}
use Rattle.pw_genexpr.proofs.checks.check_index_words.Goals as goal

pub returns-clause-few : goal.returns-clause-few
returns-clause-few c =
    let small : c.from.result < 2 ^ 31 = omega arith in
    omega (arith, size_words_at_most c.from.result small)
