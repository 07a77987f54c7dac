-- The answers to the goals of `units_without_faults_are_well_typed` in `src/laws.rt`.
use Rattle.pw_types.proofs.WellTyped.{units_without_faults_are_well_typed}
use Rattle.pw_types.proofs.laws.units_without_faults_are_well_typed.Goals as goal

pub returns : goal.returns
returns c = units_without_faults_are_well_typed
