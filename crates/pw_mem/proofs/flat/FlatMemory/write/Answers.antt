-- Bytes in a region of the vector are bytes written into the memory.
use Rattle.std.proofs.Common.{ap, refl}
use Rattle.pw_mem.specs.Memory.{with_regions}
use Rattle.pw_mem.specs.States.{with_mem}
use Rattle.pw_mem.specs.Flat.{mem_of, flat_state}
use Rattle.pw_mem.proofs.Find.{wrote_items}
use Rattle.pw_mem.proofs.flat.FlatMemory.write.Goals as goal

pub returns : goal.returns
returns c =
    ap (λ regions. with_mem (flat_state c.args.self.now) (with_regions (mem_of c.args.self.now) regions))
    (wrote_items c.args.self.now c.args.at _ c.args.i c.index_mut.result.now c.write.new.self c.args.bytes.now c.requires c.index_mut.ensures.value refl c.write.ensures)
