use Rattle.pw_simulation.proofs.Witness.{world_sees}
use Rattle.pw_simulation.proofs.laws.a_world_shows_a_project.Goals as goal

pub returns : goal.returns
returns c = world_sees
