-- What was stored is loaded from there, as far as its width says it.
use Rattle.pw_mem.proofs.Loads.{stores_are_loaded}
use Rattle.pw_mem.proofs.laws.stores_are_loaded.Goals as goal

pub returns : goal.returns
returns c = stores_are_loaded
