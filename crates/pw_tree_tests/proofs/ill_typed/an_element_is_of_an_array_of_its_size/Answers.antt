-- The answers to the goals of `an_element_is_of_an_array_of_its_size` in `src/ill_typed.rt`.
use Rattle.pw_tree_tests.proofs.IllTyped.{element_of_another_size}
use Rattle.pw_tree_tests.proofs.ill_typed.an_element_is_of_an_array_of_its_size.Goals as goal

pub returns : goal.returns
returns c = element_of_another_size
