-- The answers to the goals of `expressions_are_short` in `src/laws.rt`.
use Rattle.pw_code.proofs.Lengths.{expression_is_short}
use Rattle.pw_code.proofs.laws.expressions_are_short.Goals as goal

pub returns : goal.returns
returns c = expression_is_short
