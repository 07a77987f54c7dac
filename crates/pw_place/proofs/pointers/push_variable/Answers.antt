-- The elements of a variable stand within the data.
use Rattle.std.proofs.Common.{◌≡◌, ◌≤◌, [], length, ap, subst, arith}
use Rattle.std.specs.Option.{unwrap_or}
use Rattle.pw_tree.specs.WellTypedUnits.{room}
use Rattle.pw_place.specs.Contents.{values_of}
use Rattle.pw_place.proofs.Extents.{variable_end, few_slots}
use Rattle.pw_place.proofs.pointers.push_variable.Goals as goal

pub push_values-requires : goal.push_values-requires
push_values-requires c =
    let kind = c.args.places.now.kind in
    let objects = c.args.places.now.objects.now in
    let limits = c.args.places.now.placed.limits in
    let same : values_of c.args.x.now ≡ c.in-Some.values = ap (λ init. unwrap_or init []) c.in-Some.is in
    let few : length c.in-Some.values ≤ room c.args.x.now.count = subst (λ vs. length vs ≤ room c.args.x.now.count) same c.requires.values in
    let end = variable_end kind objects c.args.unit c.args.i c.args.x.now c.requires.variable in
    let slots = few_slots kind objects in
    rw c.as_slice.ensures (omega (arith, c.variable_start-start.ensures, limits.text, limits.elements))
