-- The place stands in the list of the unit's.
use Rattle.std.proofs.Common.{◌∙◌, ap, slice_index}
use Rattle.pw_place.proofs.FoundPlaces.{function_found, no_function}
use Rattle.pw_place.proofs.places.Places.function_start.Goals as goal

pub returns-in-Some : goal.returns-in-Some
returns-in-Some c =
    let s = c.args.self.now in
    c.number_at.ensures
    ∙ ap (λ l. slice_index l c.args.i) c.as_slice.ensures
    ∙ function_found s.kind s.objects.now s.units c.args.unit c.args.i s.placed.places c.in-Some.places.now c.in-Some.ensures.value c.requires

pub returns-in-None : goal.returns-in-None
returns-in-None c =
    let s = c.args.self.now in
    no_function s.kind s.objects.now s.units c.args.unit c.args.i s.placed.places c.in-None.ensures.value c.requires
