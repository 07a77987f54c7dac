-- The bytes of the objects so far.
use Rattle.std.proofs.Common.{◌≡◌, take, sum_by}
use Rattle.pw_place.specs.Places.{variables}
use Rattle.pw_place.proofs.VariableParts.{initialised_part}
use Rattle.pw_place.proofs.sizes.initialised_bytes.Given as goal

abbrev pub invariant-loop-object : goal.invariant-loop-object
invariant-loop-object l = l.bytes ≡ sum_by initialised_part (variables (take l.object-index l.objects))
