-- The image, which can be run, or the reason.
use Rattle.std.proofs.Common.{refl, ap}
use Rattle.std.specs.Prelude.{Err}
use Rattle.pw_image.proofs.UnitsCanRun.{units_can_run}
use Rattle.pw_cmd.specs.Stages.{gave, failed}
use Rattle.pw_cmd.proofs.primitives.build.Goals as goal

pub returns-in-Ok-clause-builds : goal.returns-in-Ok-clause-builds
returns-in-Ok-clause-builds g c = λ store input out messages. gave _ (c.in-Ok.ensures, refl) refl

pub returns-in-Ok-clause-can_run : goal.returns-in-Ok-clause-can_run
returns-in-Ok-clause-can_run g c = units_can_run c.args.file.now _ c.requires c.in-Ok.ensures.links c.in-Ok.ensures.bound

pub returns-in-Err-clause-builds : goal.returns-in-Err-clause-builds
returns-in-Err-clause-builds g c = λ store input out messages. failed _ (c.in-Err.ensures, refl) (ap Err c.stop_of_image.ensures)
