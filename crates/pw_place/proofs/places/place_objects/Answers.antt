-- The lists that were made are those of the places.
use Rattle.std.proofs.Common.{◌∙◌, ap, arith}
use Rattle.pw_place.specs.Steps.Running.{running, places_of_unit, after_unit}
use Rattle.pw_place.proofs.Bounds.{have_room}
use Rattle.pw_place.proofs.PlacedUnits.{all_placed}
use Rattle.pw_place.proofs.places.place_objects.Goals as goal

pub all_places-requires-clause-others : goal.all_places-requires-clause-others
all_places-requires-clause-others c =
    let room = have_room c.args.kind c.args.objects.now c.requires.limits in
    let others = ap (λ n. n.others) c.first_places.ensures in
    omega (arith, room.slots, room.variables, others)

pub invariant_of-result : goal.invariant_of-result
invariant_of-result c = record {
  placed = record {
    limits = c.requires.limits;
    places =
        c.in_ok-units.ensures
        ∙ ap (λ s. running places_of_unit after_unit s c.args.objects.now) c.first_places.ensures
        ∙ all_placed c.args.kind c.args.objects.now;
    with_slots = c.in_ok-slots.ensures;
    names = c.requires.names;
  };
}
