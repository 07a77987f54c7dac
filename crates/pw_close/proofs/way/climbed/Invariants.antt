-- The path climbs from the function to the one that is at hand, whose level is what is left to climb.
use Rattle.pw_close.proofs.Ways.{Climbing}
use Rattle.pw_close.proofs.way.climbed.Given as goal

abbrev pub invariant-loop-edge : goal.invariant-loop-edge
invariant-loop-edge l = Climbing l.levels l.n l.level l._edge l.at l.path.items
