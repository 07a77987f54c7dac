use Rattle.pw_simulation.proofs.Singles.{loads_are_carried_out}
use Rattle.pw_simulation.proofs.laws.loads_are_carried_out.Goals as goal

pub returns : goal.returns
returns c = loads_are_carried_out
