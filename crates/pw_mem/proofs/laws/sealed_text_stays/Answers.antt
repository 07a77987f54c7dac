-- Once a memory is sealed, a write changes no executable region.
use Rattle.pw_mem.proofs.Writes.{sealed_text_stays}
use Rattle.pw_mem.proofs.laws.sealed_text_stays.Goals as goal

pub returns : goal.returns
returns c = sealed_text_stays
