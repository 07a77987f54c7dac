-- The place that was found is that of the first file of the name.
use Rattle.std.proofs.Common.{sym}
use Rattle.pw_io.proofs.mem_store.write_file.Goals as goal

pub returns-in-Some : goal.returns-in-Some
returns-in-Some c = c.replace_file.ensures c.args.name.now (sym (rw c.deref.ensures.value at c.in-Some.ensures))
