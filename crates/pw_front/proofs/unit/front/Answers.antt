-- The unit is one that was read.
use Rattle.pw_front.proofs.ReadUnits.{unit_is_read}
use Rattle.pw_front.proofs.unit.front.Goals as goal

pub check-requires : goal.check-requires
check-requires c = record { read = unit_is_read _ _ c.requires c.in_ok-unit.ensures.unit }
