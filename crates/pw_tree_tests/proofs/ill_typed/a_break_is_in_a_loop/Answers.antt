-- The answers to the goals of `a_break_is_in_a_loop` in `src/ill_typed.rt`.
use Rattle.pw_tree_tests.proofs.IllTyped.{break_outside_loop}
use Rattle.pw_tree_tests.proofs.ill_typed.a_break_is_in_a_loop.Goals as goal

pub returns : goal.returns
returns c = break_outside_loop
