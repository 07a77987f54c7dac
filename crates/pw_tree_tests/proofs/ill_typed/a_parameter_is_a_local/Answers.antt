-- The answers to the goals of `a_parameter_is_a_local` in `src/ill_typed.rt`.
use Rattle.pw_tree_tests.proofs.IllTyped.{parameter_without_local}
use Rattle.pw_tree_tests.proofs.ill_typed.a_parameter_is_a_local.Goals as goal

pub returns : goal.returns
returns c = parameter_without_local
