use Rattle.pw_simulation.proofs.LimitedRuns.{ended_runs_stay}
use Rattle.pw_simulation.proofs.laws.ended_runs_stay.Goals as goal

pub returns : goal.returns
returns c = ended_runs_stay
