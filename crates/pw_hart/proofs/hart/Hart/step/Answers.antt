-- One instruction is a run of one.
use Rattle.pw_hart.proofs.Runs.{answers_step}
use Rattle.pw_hart.proofs.hart.Hart.step.Goals as goal

pub returns-clause-runs : goal.returns-clause-runs
returns-clause-runs g c = answers_step _ _ c.carry_out.new.used_up c.carry_out.result c.carry_out.ensures
