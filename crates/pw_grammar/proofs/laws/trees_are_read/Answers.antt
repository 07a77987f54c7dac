-- The answers to the goals of `trees_are_read` in `src/laws.rt`.
use Rattle.pw_grammar.proofs.ReadUnits.{trees_are_read}
use Rattle.pw_grammar.proofs.laws.trees_are_read.Goals as goal

pub returns : goal.returns
returns c = trees_are_read
