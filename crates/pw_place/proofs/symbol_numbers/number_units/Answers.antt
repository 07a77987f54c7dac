-- The numbers so far, with the unit's definitions, are no more than all.
use Rattle.std.proofs.Common.{ap, arith}
use Rattle.std.proofs.lemmas.List.Sums.{sum_by_more_le_part}
use Rattle.pw_place.specs.Steps.NumberLists.{static_in, definitions_in}
use Rattle.pw_place.proofs.FewDefinitions.{static_among}
use Rattle.pw_place.proofs.symbol_numbers.number_units.Goals as goal

pub number_unit-requires : goal.number_unit-requires
number_unit-requires c =
    let objects = c.args.objects.now in
    let i = c.loop-object.object-index in
    let here = ap definitions_in c.object-item.is in
    omega (
      arith,
      sum_by_more_le_part static_in definitions_in objects i c.object-item.result c.loop-object-test.true static_among,
      here,
      c.loop-object.invariant.next,
      c.requires,
    )
