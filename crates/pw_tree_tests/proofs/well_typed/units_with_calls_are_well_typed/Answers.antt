-- The answers to the goals of `units_with_calls_are_well_typed` in `src/well_typed.rt`.
use Rattle.pw_tree_tests.proofs.CallUnits.{empty_main_is_well_typed, null_callee_is_well_typed, thousand_calls_is_well_typed, one_call_more_is_well_typed}
use Rattle.pw_tree_tests.proofs.well_typed.units_with_calls_are_well_typed.Goals as goal

pub returns-clause-empty_main : goal.returns-clause-empty_main
returns-clause-empty_main c = empty_main_is_well_typed

pub returns-clause-null_callee : goal.returns-clause-null_callee
returns-clause-null_callee c = null_callee_is_well_typed

pub returns-clause-thousand_calls : goal.returns-clause-thousand_calls
returns-clause-thousand_calls c = thousand_calls_is_well_typed

pub returns-clause-one_call_more : goal.returns-clause-one_call_more
returns-clause-one_call_more c = one_call_more_is_well_typed
