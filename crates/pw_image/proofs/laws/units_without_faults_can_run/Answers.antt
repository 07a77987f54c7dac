use Rattle.pw_image.proofs.UnitsCanRun.{units_can_run}
use Rattle.pw_image.proofs.laws.units_without_faults_can_run.Goals as goal

pub returns : goal.returns
returns c = units_can_run
