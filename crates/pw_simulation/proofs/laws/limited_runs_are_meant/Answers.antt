use Rattle.pw_simulation.proofs.Meaning.{limited_runs_are_meant}
use Rattle.pw_simulation.proofs.laws.limited_runs_are_meant.Goals as goal

pub returns : goal.returns
returns c = limited_runs_are_meant
