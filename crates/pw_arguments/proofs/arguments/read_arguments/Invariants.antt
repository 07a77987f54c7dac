-- The arguments before this number were read.
use Rattle.pw_arguments.proofs.Reading.{IsReadTo}
use Rattle.pw_arguments.proofs.arguments.read_arguments.Given as goal

abbrev pub invariant-loop-number : goal.invariant-loop-number
invariant-loop-number g l = IsReadTo (g.A.Arguments.list l.arguments) l.found.items l.number
