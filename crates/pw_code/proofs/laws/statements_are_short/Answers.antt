-- The answers to the goals of `statements_are_short` in `src/laws.rt`.
use Rattle.pw_code.proofs.Lengths.{statement_is_short}
use Rattle.pw_code.proofs.laws.statements_are_short.Goals as goal

pub returns : goal.returns
returns c = statement_is_short
