-- The answers to the goals of `a_local_is_not_read_too_early` in `src/ill_typed.rt`.
use Rattle.pw_tree_tests.proofs.IllTyped.{read_too_early}
use Rattle.pw_tree_tests.proofs.ill_typed.a_local_is_not_read_too_early.Goals as goal

pub returns : goal.returns
returns c = read_too_early
