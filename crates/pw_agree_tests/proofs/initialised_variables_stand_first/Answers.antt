-- The answer to the goal of `initialised_variables_stand_first` in `src/lib.rt`.
use Rattle.pw_agree_tests.proofs.Variables.{initialised_stand_first}
use Rattle.pw_agree_tests.proofs.initialised_variables_stand_first.Goals as goal

pub returns : goal.returns
returns c = initialised_stand_first
