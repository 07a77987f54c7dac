-- The answers to the goals of `a_name_stands_once` in `src/ill_typed.rt`.
use Rattle.pw_tree_tests.proofs.IllTyped.{name_twice}
use Rattle.pw_tree_tests.proofs.ill_typed.a_name_stands_once.Goals as goal

pub returns : goal.returns
returns c = name_twice
