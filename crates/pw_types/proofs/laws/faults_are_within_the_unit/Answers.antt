-- The answers to the goals of `faults_are_within_the_unit` in `src/laws.rt`.
use Rattle.pw_types.proofs.AscendingFaults.{faults_are_within}
use Rattle.pw_types.proofs.laws.faults_are_within_the_unit.Goals as goal

pub returns : goal.returns
returns c = faults_are_within
