-- The answers to the goals of `functions_have_their_size` in `src/laws.rt`.
use Rattle.pw_code.proofs.Sizes.{size-function}
use Rattle.pw_code.proofs.laws.functions_have_their_size.Goals as goal

pub returns : goal.returns
returns c = size-function
