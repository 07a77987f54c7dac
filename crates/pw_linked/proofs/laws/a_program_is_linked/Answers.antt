use Rattle.pw_linked.proofs.Witness.{program_is_linked}
use Rattle.pw_linked.proofs.laws.a_program_is_linked.Goals as goal

pub returns : goal.returns
returns c = program_is_linked
