-- The answers to the goals of `allowed_tables_can_be_written` in `src/laws.rt`.
use Rattle.pw_deps.proofs.Written.{allowed_tables_can_be_written}
use Rattle.pw_deps.proofs.laws.allowed_tables_can_be_written.Goals as goal

pub returns : goal.returns
returns c = allowed_tables_can_be_written
