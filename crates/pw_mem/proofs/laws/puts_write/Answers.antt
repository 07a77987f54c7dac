-- A put of some bytes that answers Ok writes them.
use Rattle.pw_mem.proofs.Writes.{puts_write}
use Rattle.pw_mem.proofs.laws.puts_write.Goals as goal

pub returns : goal.returns
returns c = puts_write
