-- The answers to the goals of `an_external_function_goes_by_its_name` in `src/ill_typed.rt`.
use Rattle.pw_tree_tests.proofs.IllTyped.{external_by_number}
use Rattle.pw_tree_tests.proofs.ill_typed.an_external_function_goes_by_its_name.Goals as goal

pub returns : goal.returns
returns c = external_by_number
