-- The elements of the variables so far.
use Rattle.std.proofs.Common.{◌≡◌, take, sum_by}
use Rattle.pw_tree.specs.WellTypedUnits.{room}
use Rattle.pw_place.proofs.counts.elements_of.Given as goal

abbrev pub invariant-loop-x : goal.invariant-loop-x
invariant-loop-x l = l.count ≡ sum_by (λ x. room x.count) (take l.x-index l.vars)
