-- The answers to the goals of `faults_ascend` in `src/laws.rt`.
use Rattle.pw_types.proofs.AscendingFaults.{faults_ascend}
use Rattle.pw_types.proofs.laws.faults_ascend.Goals as goal

pub returns : goal.returns
returns c = faults_ascend
