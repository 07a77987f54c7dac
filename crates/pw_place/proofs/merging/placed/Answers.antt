-- Objects without a fault are within the limits.
use Rattle.pw_place.proofs.FaultFree.{fault_free_within}
use Rattle.pw_place.proofs.merging.placed.Goals as goal

pub place_objects-requires-clause-limits : goal.place_objects-requires-clause-limits
place_objects-requires-clause-limits c = fault_free_within c.args.kind c.args.objects.now c.requires.right
