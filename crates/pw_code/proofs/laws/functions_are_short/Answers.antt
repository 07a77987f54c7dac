-- The answers to the goals of `functions_are_short` in `src/laws.rt`.
use Rattle.pw_code.proofs.WellTyped.{function_is_short}
use Rattle.pw_code.proofs.laws.functions_are_short.Goals as goal

pub returns : goal.returns
returns c = function_is_short
