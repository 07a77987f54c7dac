-- The regions can be mapped, so they have no fault.
use Rattle.std.proofs.Common.{subst}
use Rattle.pw_mem.specs.Map.{IsFault}
use Rattle.pw_build.proofs.Mapping.{none_unaligned, none_overlaps}
use Rattle.pw_build.proofs.memory_image.place.Goals as goal

pub unreachable-requires : goal.unreachable-requires
unreachable-requires g c =
    none_unaligned c.regions_of.result c.in-Err-Unaligned.field-0-0 c.regions_of.ensures.can_map
    (subst (IsFault c.regions_of.result) c.in-Err-Unaligned.field-0-is c.in-Err-Unaligned.ensures.fault)

pub unreachable-requires-in-Err-Overlap : goal.unreachable-requires-in-Err-Overlap
unreachable-requires-in-Err-Overlap g c =
    none_overlaps c.regions_of.result c.in-Err-Overlap.field-0-0 c.regions_of.ensures.can_map
    (subst (IsFault c.regions_of.result) c.in-Err-Overlap.field-0-is c.in-Err-Overlap.ensures.fault)
