-- The file at the first place of a name keeps its name and gets the bytes.
use Rattle.pw_io.proofs.FileLookups.{bytes_of-set}
use Rattle.pw_io.proofs.mem_store.replace_file.Goals as goal

pub returns : goal.returns
returns c = λ name found. bytes_of-set c.args.files.now.items name c.args.place c.index_mut.result.now c.args.bytes found c.index_mut.ensures.value
