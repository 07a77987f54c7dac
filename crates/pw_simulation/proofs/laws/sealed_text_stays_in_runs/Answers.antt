use Rattle.pw_simulation.proofs.LimitedRuns.{sealed_text_stays_in_runs}
use Rattle.pw_simulation.proofs.laws.sealed_text_stays_in_runs.Goals as goal

pub returns : goal.returns
returns c = sealed_text_stays_in_runs
