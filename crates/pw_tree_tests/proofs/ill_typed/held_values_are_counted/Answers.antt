-- The answers to the goals of `held_values_are_counted` in `src/ill_typed.rt`.
use Rattle.pw_tree_tests.proofs.IllTyped.{sum_holds_nothing}
use Rattle.pw_tree_tests.proofs.ill_typed.held_values_are_counted.Goals as goal

pub returns : goal.returns
returns c = sum_holds_nothing
