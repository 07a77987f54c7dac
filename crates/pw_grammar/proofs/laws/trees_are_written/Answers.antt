-- The answers to the goals of `trees_are_written` in `src/laws.rt`.
use Rattle.pw_grammar.proofs.Written.{trees_are_written}
use Rattle.pw_grammar.proofs.laws.trees_are_written.Goals as goal

pub returns : goal.returns
returns c = trees_are_written
