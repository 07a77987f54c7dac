-- Zeros in a region of the vector are zeros written into the memory.
use Rattle.std.proofs.Common.{ap}
use Rattle.pw_mem.specs.Memory.{zeros, with_regions}
use Rattle.pw_mem.specs.States.{with_mem}
use Rattle.pw_mem.specs.Flat.{mem_of, flat_state}
use Rattle.pw_mem.proofs.Zeros.{length_of_zeros}
use Rattle.pw_mem.proofs.Find.{wrote_items}
use Rattle.pw_mem.proofs.flat.FlatMemory.clear.Goals as goal

pub returns : goal.returns
returns c =
    ap (λ regions. with_mem (flat_state c.args.self.now) (with_regions (mem_of c.args.self.now) regions))
    (wrote_items c.args.self.now c.args.at c.args.len c.args.i c.index_mut.result.now c.clear.new.self (zeros c.args.len) c.requires c.index_mut.ensures.value (length_of_zeros c.args.len) c.clear.ensures)
