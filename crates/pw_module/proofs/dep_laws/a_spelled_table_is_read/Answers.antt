-- The answers to the goals of `a_spelled_table_is_read` in `src/dep_laws.rt`.
use Rattle.pw_module.proofs.Tables.{spelled_table_is_read}
use Rattle.pw_module.proofs.dep_laws.a_spelled_table_is_read.Goals as goal

pub returns : goal.returns
returns c = spelled_table_is_read
