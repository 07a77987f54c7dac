-- A store that answers Ok writes the lowest bytes of its number.
use Rattle.pw_mem.proofs.Writes.{stores_write}
use Rattle.pw_mem.proofs.laws.stores_write.Goals as goal

pub returns : goal.returns
returns c = stores_write
