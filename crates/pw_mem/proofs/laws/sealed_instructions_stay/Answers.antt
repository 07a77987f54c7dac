-- Once a memory is sealed, a write changes no instruction word.
use Rattle.pw_mem.proofs.Writes.{sealed_instructions_stay}
use Rattle.pw_mem.proofs.laws.sealed_instructions_stay.Goals as goal

pub returns : goal.returns
returns c = sealed_instructions_stay
