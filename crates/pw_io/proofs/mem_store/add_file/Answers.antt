-- The new file stands at the end, under a name that no other has.
use Rattle.pw_io.proofs.FileLookups.{bytes_of-push}
use Rattle.pw_io.proofs.mem_store.add_file.Goals as goal

pub returns : goal.returns
returns c = rw (c.in-Ok.ensures.items, c.in_ok-copy.ensures) (bytes_of-push c.args.files.now.items c.args.name.now c.args.bytes c.requires)
