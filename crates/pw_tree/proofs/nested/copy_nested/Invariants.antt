-- What is at hand follows from the root by the frames.
use Rattle.pw_tree.proofs.Nesting.{LeadsTo, at_hand}
use Rattle.pw_tree.proofs.nested.copy_nested.Given as goal

abbrev pub invariant-loop-turn : goal.invariant-loop-turn
invariant-loop-turn g l = LeadsTo g.T.Nested.parts l.root l.frames (at_hand l.turn)
