-- The bytes so far and those of the next variable are within all.
use Rattle.std.proofs.Common.{sum_by, ap, sym, ◌∙◌, arith}
use Rattle.std.proofs.lemmas.List.{take_all}
use Rattle.std.proofs.lemmas.List.Sums.{sum_by_more_le}
use Rattle.pw_place.proofs.VariableParts.{initialised_part, initialised_is}
use Rattle.pw_place.proofs.sizes.initialised_bytes_of.Goals as goal

pub initialised_part-bytes-requires : goal.initialised_part-bytes-requires
initialised_part-bytes-requires c =
    let within = sum_by_more_le initialised_part c.args.vars.now c.loop-x.x-index c.x-item.result c.loop-x-test.true in
    let same = ap initialised_part c.x-item.is in
    let all = initialised_is c.args.vars.now in
    omega (arith, within, same, all, c.requires)

pub overflow_add-bytes : goal.overflow_add-bytes
overflow_add-bytes c =
    let within = sum_by_more_le initialised_part c.args.vars.now c.loop-x.x-index c.x-item.result c.loop-x-test.true in
    let same = ap initialised_part c.x-item.is in
    let all = initialised_is c.args.vars.now in
    omega (arith, within, same, all, c.requires, c.loop-x.invariant, c.initialised_part-bytes.ensures)

pub returns : goal.returns
returns c =
    c.loop-x.invariant
    ∙ ap (sum_by initialised_part) (take_all _ c.args.vars.now c.loop-x-test.false)
    ∙ sym (initialised_is c.args.vars.now)
