-- The answer to the goal of `read_modules_are_searched` in `src/lib.rt`.
use Rattle.pw_agree_tests.proofs.ReadModules.{read_modules_are_searched}
use Rattle.pw_agree_tests.proofs.read_modules_are_searched.Goals as goal

pub returns : goal.returns
returns c = read_modules_are_searched
