-- The first region that holds the bytes is the one that is found.
use Rattle.pw_mem.proofs.Find.{finds}
use Rattle.pw_mem.proofs.flat.FlatMemory.find.Goals as goal

pub returns : goal.returns
returns c =
    rw c.ok_or.ensures.value (finds c.args.self.now c.args.at c.args.len c.position.result c.position.ensures)
