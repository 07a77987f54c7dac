use Rattle.pw_simulation.proofs.LimitedRuns.{limited_runs_go_on}
use Rattle.pw_simulation.proofs.laws.limited_runs_go_on.Goals as goal

pub returns : goal.returns
returns c = limited_runs_go_on
