-- The answers to the goals of `a_number_is_no_pointer` in `src/ill_typed.rt`.
use Rattle.pw_tree_tests.proofs.IllTyped.{number_for_pointer}
use Rattle.pw_tree_tests.proofs.ill_typed.a_number_is_no_pointer.Goals as goal

pub returns : goal.returns
returns c = number_for_pointer
