use Rattle.pw_linked.proofs.Runs.{runs_either_way}
use Rattle.pw_linked.proofs.laws.linked_modules_run_as_meant.Goals as goal

pub returns : goal.returns
returns c = runs_either_way
