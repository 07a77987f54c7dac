use Rattle.pw_simulation.proofs.Enough.{kept_is_enough}
use Rattle.pw_simulation.proofs.projects.kept_is_enough.Goals as goal

pub returns : goal.returns
returns c = kept_is_enough
