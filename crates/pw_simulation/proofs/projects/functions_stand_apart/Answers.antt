use Rattle.pw_simulation.proofs.StandApart.{functions_stand_apart}
use Rattle.pw_simulation.proofs.projects.functions_stand_apart.Goals as goal

pub returns : goal.returns
returns c = functions_stand_apart
