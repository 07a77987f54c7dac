-- The text, or the reason.
use Rattle.std.proofs.Common.{refl, ap}
use Rattle.std.specs.Prelude.{Err}
use Rattle.pw_cmd.specs.Stages.{gave, failed}
use Rattle.pw_cmd.proofs.primitives.read.Goals as goal

pub returns-in-Ok-clause-reads : goal.returns-in-Ok-clause-reads
returns-in-Ok-clause-reads g c = λ input out messages memory. gave _ (c.in-Ok.ensures, refl) refl

pub returns-in-Err-clause-reads : goal.returns-in-Err-clause-reads
returns-in-Err-clause-reads g c = λ input out messages memory. failed _ (c.in-Err.ensures, refl) (ap Err c.stop_of_read.ensures)
