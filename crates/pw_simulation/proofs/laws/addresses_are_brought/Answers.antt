use Rattle.pw_simulation.proofs.Singles.{addresses_are_brought}
use Rattle.pw_simulation.proofs.laws.addresses_are_brought.Goals as goal

pub returns : goal.returns
returns c = addresses_are_brought
