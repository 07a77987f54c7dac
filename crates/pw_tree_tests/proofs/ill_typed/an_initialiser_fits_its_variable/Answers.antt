-- The answers to the goals of `an_initialiser_fits_its_variable` in `src/ill_typed.rt`.
use Rattle.pw_tree_tests.proofs.IllTyped.{initialiser_too_long}
use Rattle.pw_tree_tests.proofs.ill_typed.an_initialiser_fits_its_variable.Goals as goal

pub returns : goal.returns
returns c = initialiser_too_long
