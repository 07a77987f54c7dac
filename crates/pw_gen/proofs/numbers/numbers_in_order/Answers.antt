-- One more variable is counted, and there are few.
use Rattle.std.proofs.Common.{◌≡◌, ◌+◌, [], ◌∷◌, ◌++◌, take, arith, sym, subst}
use Rattle.std.proofs.lemmas.List.{length-take}
use Rattle.pw_code.specs.Objects.{is_initialised, is_uninitialised}
use Rattle.pw_gen.proofs.NumberLists.{few_pass}
use Rattle.pw_gen.proofs.CountedNumbers.{AreCounted, counted_more}
use Rattle.pw_gen.proofs.numbers.numbers_in_order.Goals as goal

pub overflow_cast-next : goal.overflow_cast-next
overflow_cast-next c = omega (arith, c.count_initialised.ensures, few_pass is_initialised c.args.vars.now)

pub loop-x-preserved : goal.loop-x-preserved
loop-x-preserved c =
    let vars = c.args.vars.now in
    let i = c.loop-x.x-index in
    subst (λ ns. AreCounted vars ns (i + 1) c.after-next.result) (sym c.in_ok-push.ensures.ok)
    (subst (AreCounted vars (c.loop-x.numbers ++ c.next_number.result ∷ []) (i + 1)) (sym c.after-next.ensures)
    (counted_more vars i c.x-item.result c.loop-x-test.true c.x-item.is c.loop-x.numbers c.loop-x.next c.next_number.result c.loop-x.invariant
    c.next_number.ensures))

pub after-next-requires-clause-initialised : goal.after-next-requires-clause-initialised
after-next-requires-clause-initialised c =
    omega (arith, few_pass is_initialised (take c.loop-x.x-index c.args.vars.now), length-take c.loop-x.x-index c.args.vars.now, c.loop-x.invariant.first)

pub after-next-requires-clause-others : goal.after-next-requires-clause-others
after-next-requires-clause-others c =
    omega (
      arith,
      few_pass is_initialised c.args.vars.now,
      few_pass is_uninitialised (take c.loop-x.x-index c.args.vars.now),
      length-take c.loop-x.x-index c.args.vars.now,
      c.loop-x.invariant.second,
    )
