-- The answers to the goals of `tokens_are_small` in `src/laws.rt`.
use Rattle.pw_grammar.proofs.TextTokens.{tokens_are_small}
use Rattle.pw_grammar.proofs.laws.tokens_are_small.Goals as goal

pub returns : goal.returns
returns c = tokens_are_small
