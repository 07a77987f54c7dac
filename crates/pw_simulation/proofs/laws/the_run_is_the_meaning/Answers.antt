use Rattle.pw_simulation.proofs.Meaning.{the_run_is_the_meaning}
use Rattle.pw_simulation.proofs.laws.the_run_is_the_meaning.Goals as goal

pub returns : goal.returns
returns c = the_run_is_the_meaning
