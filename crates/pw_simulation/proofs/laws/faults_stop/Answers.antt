use Rattle.pw_simulation.proofs.Singles.{faults_stop}
use Rattle.pw_simulation.proofs.laws.faults_stop.Goals as goal

pub returns : goal.returns
returns c = faults_stop
