-- The answers to the goals of `value_of_bytes_gives_them_back` in `src/laws.rt`.
use Rattle.pw_base.proofs.Bytes.{le_bytes-le}
use Rattle.pw_base.proofs.laws.value_of_bytes_gives_them_back.Goals as goal

pub returns : goal.returns
returns c = le_bytes-le
