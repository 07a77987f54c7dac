-- The next number is no more than the first one and all variables.
use Rattle.std.proofs.Common.{take, arith}
use Rattle.std.proofs.lemmas.List.{length-take}
use Rattle.std.proofs.lemmas.List.Sums.{count_by-le-length}
use Rattle.pw_place.specs.Steps.NumberLists.{is_static_variable}
use Rattle.pw_place.proofs.symbol_numbers.number_variables.Goals as goal

pub after-next-requires : goal.after-next-requires
after-next-requires c =
    omega (
      arith,
      count_by-le-length is_static_variable (take c.loop-x.x-index c.args.variables.now),
      length-take c.loop-x.x-index c.args.variables.now,
      c.loop-x.invariant.next,
      c.loop-x-test.true,
      c.requires,
    )
