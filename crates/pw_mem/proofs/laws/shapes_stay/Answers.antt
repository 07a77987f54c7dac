-- A write changes no region's place, length or rights, and not the seal.
use Rattle.pw_mem.proofs.Writes.{shapes_stay}
use Rattle.pw_mem.proofs.laws.shapes_stay.Goals as goal

pub returns : goal.returns
returns c = shapes_stay
