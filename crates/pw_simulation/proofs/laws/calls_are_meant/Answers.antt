use Rattle.pw_simulation.proofs.Meaning.{calls_are_meant}
use Rattle.pw_simulation.proofs.laws.calls_are_meant.Goals as goal

pub returns : goal.returns
returns c = calls_are_meant
