use Rattle.pw_linked.proofs.CanRun.{linked_can_run}
use Rattle.pw_linked.proofs.laws.linked_modules_can_run.Goals as goal

pub returns : goal.returns
returns c = linked_can_run
