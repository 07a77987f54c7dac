-- The answers to the goals of `units_with_a_loop_are_well_typed` in `src/well_typed.rt`.
use Rattle.pw_tree_tests.proofs.LoopUnits.{dots_is_well_typed, one_break_is_well_typed}
use Rattle.pw_tree_tests.proofs.well_typed.units_with_a_loop_are_well_typed.Goals as goal

pub returns-clause-dots : goal.returns-clause-dots
returns-clause-dots c = dots_is_well_typed

pub returns-clause-one_break : goal.returns-clause-one_break
returns-clause-one_break c = one_break_is_well_typed
