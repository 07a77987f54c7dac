-- The answers to the goals of `reading_tells_the_tree_or_the_first_fault` in `src/laws.rt`.
use Rattle.pw_grammar.proofs.Known.{reading_tells}
use Rattle.pw_grammar.proofs.laws.reading_tells_the_tree_or_the_first_fault.Goals as goal

pub returns : goal.returns
returns c = reading_tells
