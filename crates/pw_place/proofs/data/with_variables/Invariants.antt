-- Those so far are counted.
use Rattle.std.proofs.Common.{◌≡◌, ◌+◌, drop}
use Rattle.pw_place.specs.Places.{uninitialised_size}
use Rattle.pw_place.proofs.data.with_variables.Given as goal

abbrev pub invariant-loop-x : goal.invariant-loop-x
invariant-loop-x l = l.total + uninitialised_size (drop l.x-index l.xs) ≡ l.fn.total + uninitialised_size l.xs
