-- The answers to the goals of `a_break_is_no_last_part` in `src/ill_typed.rt`.
use Rattle.pw_tree_tests.proofs.IllTyped.{break_as_last_part}
use Rattle.pw_tree_tests.proofs.ill_typed.a_break_is_no_last_part.Goals as goal

pub returns : goal.returns
returns c = break_as_last_part
