-- A write changes no bytes beside its own.
use Rattle.pw_mem.proofs.Writes.{other_bytes_stay}
use Rattle.pw_mem.proofs.laws.other_bytes_stay.Goals as goal

pub returns : goal.returns
returns c = other_bytes_stay
