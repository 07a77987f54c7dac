-- The answers to the goals of `a_void_function_returns_no_value` in `src/ill_typed.rt`.
use Rattle.pw_tree_tests.proofs.IllTyped.{value_from_void}
use Rattle.pw_tree_tests.proofs.ill_typed.a_void_function_returns_no_value.Goals as goal

pub returns : goal.returns
returns c = value_from_void
