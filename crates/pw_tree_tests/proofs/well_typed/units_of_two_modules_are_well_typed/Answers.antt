-- The answers to the goals of `units_of_two_modules_are_well_typed` in `src/well_typed.rt`.
use Rattle.pw_tree_tests.proofs.ModuleUnits.{calling_unit_is_well_typed, called_unit_is_well_typed, letter_counter_is_well_typed, number_printer_is_well_typed}
use Rattle.pw_tree_tests.proofs.well_typed.units_of_two_modules_are_well_typed.Goals as goal

pub returns-clause-calling_unit : goal.returns-clause-calling_unit
returns-clause-calling_unit c = calling_unit_is_well_typed

pub returns-clause-called_unit : goal.returns-clause-called_unit
returns-clause-called_unit c = called_unit_is_well_typed

pub returns-clause-letter_counter : goal.returns-clause-letter_counter
returns-clause-letter_counter c = letter_counter_is_well_typed

pub returns-clause-number_printer : goal.returns-clause-number_printer
returns-clause-number_printer c = number_printer_is_well_typed
