-- The regions before each one can be mapped, and so can all of them at the end.
use Rattle.std.proofs.Common.{arith}
use Rattle.pw_mem.specs.declared.region.Region.{Region}
use Rattle.pw_mem.proofs.Mapping.{can_map_more, can_map_all}
use Rattle.pw_mem.proofs.faults.check.Goals as goal

abbrev none : Region
none = record { start = 0; len = 0; rights = record { 0 = 0 } }

pub loop-i-preserved : goal.loop-i-preserved
loop-i-preserved c =
    can_map_more c.args.regions.now c.loop-i.i none (omega arith) c.loop-i.invariant (cc) (cc)

pub returns-clause-no_fault : goal.returns-clause-no_fault
returns-clause-no_fault c = can_map_all _ _ (omega arith) c.loop-i.invariant
