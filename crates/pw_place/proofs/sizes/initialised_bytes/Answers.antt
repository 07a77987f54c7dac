-- The bytes so far and those of the next object are within all.
use Rattle.std.proofs.Common.{sum_by, ap, sym, ◌∙◌, arith}
use Rattle.std.proofs.lemmas.List.{take_all}
use Rattle.pw_place.specs.Places.{variables, initialised_size}
use Rattle.pw_place.proofs.Sums.{parts_le, parts_more}
use Rattle.pw_place.proofs.VariableParts.{initialised_part, initialised_is}
use Rattle.pw_place.proofs.sizes.initialised_bytes.Goals as goal

pub initialised_bytes_of-bytes-requires : goal.initialised_bytes_of-bytes-requires
initialised_bytes_of-bytes-requires c =
    let part = parts_le initialised_part (λ o. o.vars) c.args.objects.now c.loop-object.object-index c.object-item.result c.loop-object-test.true c.object-item.is in
    let own = ap initialised_size c.as_slice.ensures ∙ initialised_is c.object-item.result.vars in
    let all = initialised_is (variables c.args.objects.now) in
    omega (arith, part, own, all, c.requires)

pub overflow_add-bytes : goal.overflow_add-bytes
overflow_add-bytes c =
    let part = parts_le initialised_part (λ o. o.vars) c.args.objects.now c.loop-object.object-index c.object-item.result c.loop-object-test.true c.object-item.is in
    let own = ap initialised_size c.as_slice.ensures ∙ initialised_is c.object-item.result.vars in
    let all = initialised_is (variables c.args.objects.now) in
    omega (arith, part, own, all, c.requires, c.loop-object.invariant, c.initialised_bytes_of-bytes.ensures)

pub loop-object-preserved : goal.loop-object-preserved
loop-object-preserved c =
    let more = parts_more initialised_part (λ o. o.vars) c.args.objects.now c.loop-object.object-index c.object-item.result c.loop-object-test.true c.object-item.is in
    let own = ap initialised_size c.as_slice.ensures ∙ initialised_is c.object-item.result.vars in
    omega (arith, more, own, c.loop-object.invariant, c.initialised_bytes_of-bytes.ensures)

pub returns : goal.returns
returns c =
    c.loop-object.invariant
    ∙ ap (λ os. sum_by initialised_part (variables os)) (take_all _ c.args.objects.now c.loop-object-test.false)
    ∙ sym (initialised_is (variables c.args.objects.now))
