-- The answers to the goals of `a_name_is_defined_once` in `src/ill_typed.rt`.
use Rattle.pw_tree_tests.proofs.IllTyped.{defined_twice}
use Rattle.pw_tree_tests.proofs.ill_typed.a_name_is_defined_once.Goals as goal

pub returns : goal.returns
returns c = defined_twice
