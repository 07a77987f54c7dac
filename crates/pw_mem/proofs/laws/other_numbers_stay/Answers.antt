-- A write changes no number beside its bytes, whatever its width.
use Rattle.pw_mem.proofs.Writes.{other_numbers_stay}
use Rattle.pw_mem.proofs.laws.other_numbers_stay.Goals as goal

pub returns : goal.returns
returns c = other_numbers_stay
