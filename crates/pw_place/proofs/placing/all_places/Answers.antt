-- One more unit is placed, and the next one stands after it.
use Rattle.std.proofs.Common.{◌++◌, [], ◌∷◌, sym, ap, ◌∙◌, take, arith}
use Rattle.pw_place.specs.Sizes.{function_bytes}
use Rattle.pw_place.specs.Places.{variables}
use Rattle.pw_place.specs.Steps.Running.{places_of_unit, after_unit}
use Rattle.pw_place.proofs.Running.{running_more, after_more, units_passed}
use Rattle.pw_place.proofs.VariableParts.{initialised_part, other_part, initialised_is, others_are}
use Rattle.pw_place.proofs.Sums.{parts_le}
use Rattle.pw_place.proofs.placing.all_places.Goals as goal

pub unit_places-requires-clause-functions : goal.unit_places-requires-clause-functions
unit_places-requires-clause-functions c =
    let at = ap (λ n. n.function) (c.loop-object.invariant.next ∙ units_passed (take c.loop-object.object-index c.args.objects.now) c.args.start) in
    let part = parts_le function_bytes (λ o. o.funs) c.args.objects.now c.loop-object.object-index c.object-item.result c.loop-object-test.true c.object-item.is in
    omega (arith, at, part, c.requires.functions)

pub unit_places-requires-clause-initialised : goal.unit_places-requires-clause-initialised
unit_places-requires-clause-initialised c =
    let at = ap (λ n. n.initialised) (c.loop-object.invariant.next ∙ units_passed (take c.loop-object.object-index c.args.objects.now) c.args.start) in
    let part = parts_le initialised_part (λ o. o.vars) c.args.objects.now c.loop-object.object-index c.object-item.result c.loop-object-test.true c.object-item.is in
    let own = initialised_is c.object-item.result.vars in
    let all = initialised_is (variables c.args.objects.now) in
    omega (arith, at, part, own, all, c.requires.initialised)

pub unit_places-requires-clause-others : goal.unit_places-requires-clause-others
unit_places-requires-clause-others c =
    let at = ap (λ n. n.others) (c.loop-object.invariant.next ∙ units_passed (take c.loop-object.object-index c.args.objects.now) c.args.start) in
    let part = parts_le other_part (λ o. o.vars) c.args.objects.now c.loop-object.object-index c.object-item.result c.loop-object-test.true c.object-item.is in
    let own = others_are c.object-item.result.vars in
    let all = others_are (variables c.args.objects.now) in
    omega (arith, at, part, own, all, c.requires.others)

pub loop-object-preserved : goal.loop-object-preserved
loop-object-preserved c =
    let objects = c.args.objects.now in
    let i = c.loop-object.object-index in
    let o = c.object-item.result in
    record {
      places =
          c.in_ok-push.ensures.ok
          ∙ ap (λ p. c.loop-object.units ++ p ∷ []) c.in_ok-unit_places.ensures.places
          ∙ (λ j. c.loop-object.invariant.places j ++ places_of_unit (c.loop-object.invariant.next j) o ∷ [])
          ∙ sym (running_more places_of_unit after_unit c.args.start objects i o c.loop-object-test.true c.object-item.is);
      next =
          c.in_ok-unit_places.ensures.next
          ∙ ap (λ n. after_unit n o) c.loop-object.invariant.next
          ∙ sym (after_more places_of_unit after_unit c.args.start objects i o c.loop-object-test.true c.object-item.is);
    }
