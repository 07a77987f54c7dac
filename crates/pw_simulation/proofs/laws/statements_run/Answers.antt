use Rattle.pw_simulation.proofs.Statements.{statements_run}
use Rattle.pw_simulation.proofs.laws.statements_run.Goals as goal

pub returns : goal.returns
returns c = statements_run
