-- What the words ask for, or the reason.
use Rattle.std.proofs.Common.{refl, ap}
use Rattle.std.specs.Prelude.{Err}
use Rattle.pw_cmd.specs.Stages.{gave, failed}
use Rattle.pw_cmd.proofs.Requests.{allowed}
use Rattle.pw_cmd.proofs.primitives.judge.Goals as goal

pub returns-in-Ok-clause-judges : goal.returns-in-Ok-clause-judges
returns-in-Ok-clause-judges c = λ o. gave _ (c.in-Ok.ensures, refl) refl

pub returns-in-Ok-clause-allowed : goal.returns-in-Ok-clause-allowed
returns-in-Ok-clause-allowed c = allowed _ _ c.in-Ok.ensures

pub returns-in-Err-clause-judges : goal.returns-in-Err-clause-judges
returns-in-Err-clause-judges c = λ o. failed _ (c.in-Err.ensures, refl) (ap Err c.stop_of_words.ensures)
