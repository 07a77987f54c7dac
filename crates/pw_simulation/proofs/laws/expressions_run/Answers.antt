use Rattle.pw_simulation.proofs.Expressions.{expressions_run}
use Rattle.pw_simulation.proofs.laws.expressions_run.Goals as goal

pub returns : goal.returns
returns c = expressions_run
