-- The answers to the goals of `well_typed_code_is_short` in `src/laws.rt`.
use Rattle.pw_code.proofs.WellTyped.{well_typed_is_short}
use Rattle.pw_code.proofs.laws.well_typed_code_is_short.Goals as goal

pub returns : goal.returns
returns c = well_typed_is_short
