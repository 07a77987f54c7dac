-- The answers to the goals of `a_number_is_not_called` in `src/ill_typed.rt`.
use Rattle.pw_tree_tests.proofs.IllTyped.{number_called}
use Rattle.pw_tree_tests.proofs.ill_typed.a_number_is_not_called.Goals as goal

pub returns : goal.returns
returns c = number_called
