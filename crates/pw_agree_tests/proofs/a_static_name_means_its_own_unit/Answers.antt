-- The answer to the goal of `a_static_name_means_its_own_unit` in `src/lib.rt`.
use Rattle.pw_agree_tests.proofs.StaticNames.{static_names_are_own}
use Rattle.pw_agree_tests.proofs.a_static_name_means_its_own_unit.Goals as goal

pub returns : goal.returns
returns c = static_names_are_own
