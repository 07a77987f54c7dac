-- The answers to the goals of `units_with_an_array_are_well_typed` in `src/well_typed.rt`.
use Rattle.pw_tree_tests.proofs.ArrayUnits.{index_minus_one_is_well_typed, index_of_the_size_is_well_typed, last_index_is_well_typed}
use Rattle.pw_tree_tests.proofs.well_typed.units_with_an_array_are_well_typed.Goals as goal

pub returns-clause-index_minus_one : goal.returns-clause-index_minus_one
returns-clause-index_minus_one c = index_minus_one_is_well_typed

pub returns-clause-index_of_the_size : goal.returns-clause-index_of_the_size
returns-clause-index_of_the_size c = index_of_the_size_is_well_typed

pub returns-clause-last_index : goal.returns-clause-last_index
returns-clause-last_index c = last_index_is_well_typed
