-- What is referred to is within reach.
use Rattle.pw_place.proofs.Reach.{target_below}
use Rattle.pw_place.proofs.text.put_address.Goals as goal

pub distance-distance-requires-clause-target : goal.distance-distance-requires-clause-target
distance-distance-requires-clause-target c =
    let objects = c.args.places.now.objects.now in
    rw c.target.ensures
    (target_below c.args.places.now.kind objects c.args.unit c.args.to.now c.args.places.now.placed.limits c.requires.placed)
