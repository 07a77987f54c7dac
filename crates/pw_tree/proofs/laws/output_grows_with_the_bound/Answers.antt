-- The answers to the goals of `output_grows_with_the_bound` in `src/laws.rt`.
use Rattle.pw_tree.proofs.LawProofs.{output_grows}
use Rattle.pw_tree.proofs.laws.output_grows_with_the_bound.Goals as goal

pub returns : goal.returns
returns c = output_grows
