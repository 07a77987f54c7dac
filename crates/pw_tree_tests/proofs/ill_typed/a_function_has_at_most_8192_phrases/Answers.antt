-- The answers to the goals of `a_function_has_at_most_8192_phrases` in `src/ill_typed.rt`.
use Rattle.pw_tree_tests.proofs.IllTyped.{too_many_phrases}
use Rattle.pw_tree_tests.proofs.ill_typed.a_function_has_at_most_8192_phrases.Goals as goal

pub returns : goal.returns
returns c = too_many_phrases
