use Rattle.pw_simulation.proofs.Enough.{all_is_enough}
use Rattle.pw_simulation.proofs.projects.all_is_enough.Goals as goal

pub returns : goal.returns
returns c = all_is_enough
