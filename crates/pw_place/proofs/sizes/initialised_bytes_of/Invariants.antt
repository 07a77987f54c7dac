-- The bytes of the variables so far.
use Rattle.std.proofs.Common.{◌≡◌, take, sum_by}
use Rattle.pw_place.proofs.VariableParts.{initialised_part}
use Rattle.pw_place.proofs.sizes.initialised_bytes_of.Given as goal

abbrev pub invariant-loop-x : goal.invariant-loop-x
invariant-loop-x l = l.bytes ≡ sum_by initialised_part (take l.x-index l.vars)
