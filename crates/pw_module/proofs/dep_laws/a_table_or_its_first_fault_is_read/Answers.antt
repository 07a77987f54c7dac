-- The answers to the goals of `a_table_or_its_first_fault_is_read` in `src/dep_laws.rt`.
use Rattle.pw_module.proofs.Tables.{table_or_first_fault}
use Rattle.pw_module.proofs.dep_laws.a_table_or_its_first_fault_is_read.Goals as goal

pub returns : goal.returns
returns c = table_or_first_fault
