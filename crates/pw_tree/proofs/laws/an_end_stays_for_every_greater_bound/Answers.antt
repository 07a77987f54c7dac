-- The answers to the goals of `an_end_stays_for_every_greater_bound` in `src/laws.rt`.
use Rattle.pw_tree.proofs.LawProofs.{end_stays}
use Rattle.pw_tree.proofs.laws.an_end_stays_for_every_greater_bound.Goals as goal

pub returns : goal.returns
returns c = end_stays
