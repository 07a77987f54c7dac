-- The answers to the goals of `a_read_table_is_spelled_so` in `src/dep_laws.rt`.
use Rattle.pw_module.proofs.Tables.{read_table_is_spelled_so}
use Rattle.pw_module.proofs.dep_laws.a_read_table_is_spelled_so.Goals as goal

pub returns : goal.returns
returns c = read_table_is_spelled_so
