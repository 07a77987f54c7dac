-- The answers to the goals of `a_declaration_is_no_last_part` in `src/ill_typed.rt`.
use Rattle.pw_tree_tests.proofs.IllTyped.{declaration_as_last_part}
use Rattle.pw_tree_tests.proofs.ill_typed.a_declaration_is_no_last_part.Goals as goal

pub returns : goal.returns
returns c = declaration_as_last_part
