-- The registers are those of a fresh processor.
use Rattle.std.proofs.Common.{refl}
use Rattle.pw_build.proofs.Starting.{fresh_registers}
use Rattle.pw_build.proofs.run.fresh.Goals as goal

pub returns : goal.returns
returns c = record { pc = refl; steps_left = refl; x = fresh_registers c.from.result _ c.from.ensures }
