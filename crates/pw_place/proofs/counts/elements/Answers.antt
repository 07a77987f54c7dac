-- The elements so far and those of the next object are within all.
use Rattle.std.proofs.Common.{sum_by, ap, arith}
use Rattle.pw_tree.specs.WellTypedUnits.{room}
use Rattle.pw_place.proofs.Sums.{parts_le}
use Rattle.pw_place.proofs.counts.elements.Goals as goal

pub returns-in_err-elements_of : goal.returns-in_err-elements_of
returns-in_err-elements_of c =
    let part = parts_le (λ x. room x.count) (λ o. o.vars) c.args.objects.now c.loop-object.object-index c.object-item.result c.loop-object-test.true c.object-item.is in
    let own = ap (sum_by (λ x. room x.count)) c.as_slice.ensures in
    rw c.from_residual.ensures (omega (arith, part, own, c.in_err-elements_of.ensures))

pub returns-in_err-count : goal.returns-in_err-count
returns-in_err-count c =
    let part = parts_le (λ x. room x.count) (λ o. o.vars) c.args.objects.now c.loop-object.object-index c.object-item.result c.loop-object-test.true c.object-item.is in
    let own = ap (sum_by (λ x. room x.count)) c.as_slice.ensures in
    rw c.from_residual-in_err-count.ensures
    (omega (arith, part, own, c.loop-object.invariant, c.in_ok-elements_of.ensures, c.in_err-count.ensures))
