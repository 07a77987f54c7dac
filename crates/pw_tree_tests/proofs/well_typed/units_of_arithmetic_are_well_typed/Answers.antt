-- The answers to the goals of `units_of_arithmetic_are_well_typed` in `src/well_typed.rt`.
use Rattle.pw_tree_tests.proofs.ArithmeticUnits.{wrapping_sum_is_well_typed, quotient_by_zero_is_well_typed, least_by_minus_one_is_well_typed}
use Rattle.pw_tree_tests.proofs.well_typed.units_of_arithmetic_are_well_typed.Goals as goal

pub returns-clause-wrapping_sum : goal.returns-clause-wrapping_sum
returns-clause-wrapping_sum c = wrapping_sum_is_well_typed

pub returns-clause-quotient_by_zero : goal.returns-clause-quotient_by_zero
returns-clause-quotient_by_zero c = quotient_by_zero_is_well_typed

pub returns-clause-least_by_minus_one : goal.returns-clause-least_by_minus_one
returns-clause-least_by_minus_one c = least_by_minus_one_is_well_typed
