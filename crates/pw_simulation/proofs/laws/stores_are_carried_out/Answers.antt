use Rattle.pw_simulation.proofs.Singles.{stores_are_carried_out}
use Rattle.pw_simulation.proofs.laws.stores_are_carried_out.Goals as goal

pub returns : goal.returns
returns c = stores_are_carried_out
