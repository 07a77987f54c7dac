-- The answers to the goals of `a_pointer_has_at_most_6_parameters` in `src/ill_typed.rt`.
use Rattle.pw_tree_tests.proofs.IllTyped.{pointer_to_seven}
use Rattle.pw_tree_tests.proofs.ill_typed.a_pointer_has_at_most_6_parameters.Goals as goal

pub returns : goal.returns
returns c = pointer_to_seven
