-- The first variables are counted.
use Rattle.pw_gen.proofs.CountedNumbers.{AreCounted}
use Rattle.pw_gen.proofs.numbers.numbers_in_order.Given as goal

abbrev pub invariant-loop-x : goal.invariant-loop-x
invariant-loop-x l = AreCounted l.vars l.numbers l.x-index l.next
