use Rattle.pw_simulation.proofs.LoadImmediate.{load_immediate_loads}
use Rattle.pw_simulation.proofs.laws.load_immediate_loads.Goals as goal

pub returns : goal.returns
returns c = load_immediate_loads
