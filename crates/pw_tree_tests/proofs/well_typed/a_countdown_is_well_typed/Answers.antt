-- The answers to the goals of `a_countdown_is_well_typed` in `src/well_typed.rt`.
use Rattle.pw_tree_tests.proofs.Countdown.{countdown_is_well_typed}
use Rattle.pw_tree_tests.proofs.well_typed.a_countdown_is_well_typed.Goals as goal

pub returns : goal.returns
returns c = countdown_is_well_typed
