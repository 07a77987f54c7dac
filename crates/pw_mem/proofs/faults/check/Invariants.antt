-- The regions before this one can be mapped.
use Rattle.std.proofs.Common.{take}
use Rattle.pw_mem.specs.Map.{CanMap}
use Rattle.pw_mem.proofs.faults.check.Given as goal

abbrev pub invariant-loop-i : goal.invariant-loop-i
invariant-loop-i l = CanMap (take l.i l.regions)
