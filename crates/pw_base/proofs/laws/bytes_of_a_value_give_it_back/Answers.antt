-- The answers to the goals of `bytes_of_a_value_give_it_back` in `src/laws.rt`.
use Rattle.pw_base.proofs.Bytes.{le-le_bytes}
use Rattle.pw_base.proofs.laws.bytes_of_a_value_give_it_back.Goals as goal

pub returns : goal.returns
returns c = le-le_bytes
