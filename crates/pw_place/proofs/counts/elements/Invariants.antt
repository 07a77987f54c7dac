-- The elements of the objects so far.
use Rattle.std.proofs.Common.{◌≡◌, take}
use Rattle.pw_place.specs.Refusals.{elements}
use Rattle.pw_place.proofs.counts.elements.Given as goal

abbrev pub invariant-loop-object : goal.invariant-loop-object
invariant-loop-object l = l.count ≡ elements (take l.object-index l.objects)
