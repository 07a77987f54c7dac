-- The answers to the goals of `expressions_have_their_size` in `src/laws.rt`.
use Rattle.pw_code.proofs.Sizes.{size-expression}
use Rattle.pw_code.proofs.laws.expressions_have_their_size.Goals as goal

pub returns : goal.returns
returns c = size-expression
