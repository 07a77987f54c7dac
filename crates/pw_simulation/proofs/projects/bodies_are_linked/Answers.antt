use Rattle.pw_simulation.proofs.Enough.{body_is_linked}
use Rattle.pw_simulation.proofs.projects.bodies_are_linked.Goals as goal

pub returns : goal.returns
returns c = λ project keep b f run enough there here kept. body_is_linked project keep run enough b f there here kept
