-- The answers to the goals of `a_variable_is_not_called` in `src/ill_typed.rt`.
use Rattle.pw_tree_tests.proofs.IllTyped.{variable_called}
use Rattle.pw_tree_tests.proofs.ill_typed.a_variable_is_not_called.Goals as goal

pub returns : goal.returns
returns c = variable_called
