-- The answers to the goals of `statements_have_their_size` in `src/laws.rt`.
use Rattle.pw_code.proofs.Sizes.{size-statement}
use Rattle.pw_code.proofs.laws.statements_have_their_size.Goals as goal

pub returns : goal.returns
returns c = size-statement
