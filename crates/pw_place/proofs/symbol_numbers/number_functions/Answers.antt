-- The next number is no more than the first one and all functions.
use Rattle.std.proofs.Common.{take, arith}
use Rattle.std.proofs.lemmas.List.{length-take}
use Rattle.std.proofs.lemmas.List.Sums.{count_by-le-length}
use Rattle.pw_place.specs.Steps.NumberLists.{is_static_function}
use Rattle.pw_place.proofs.symbol_numbers.number_functions.Goals as goal

pub after-next-requires : goal.after-next-requires
after-next-requires c =
    omega (
      arith,
      count_by-le-length is_static_function (take c.loop-f.f-index c.args.functions.now),
      length-take c.loop-f.f-index c.args.functions.now,
      c.loop-f.invariant.next,
      c.loop-f-test.true,
      c.requires,
    )
