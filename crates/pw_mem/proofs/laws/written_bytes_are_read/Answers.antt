-- Bytes that were written stand there.
use Rattle.pw_mem.proofs.Writes.{written_bytes_are_read}
use Rattle.pw_mem.proofs.laws.written_bytes_are_read.Goals as goal

pub returns : goal.returns
returns c = written_bytes_are_read
