-- Regions with no address in common have none after a write.
use Rattle.pw_mem.proofs.Apart.{writes_keep_apart}
use Rattle.pw_mem.proofs.laws.writes_keep_apart.Goals as goal

pub returns : goal.returns
returns c = writes_keep_apart
