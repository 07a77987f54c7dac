-- The bytes so far and those of the next object are within all.
use Rattle.std.proofs.Common.{sum_by, ap, arith}
use Rattle.pw_place.specs.Sizes.{function_bytes}
use Rattle.pw_place.proofs.Sums.{parts_le}
use Rattle.pw_place.proofs.counts.text_size.Goals as goal

pub returns-in_err-functions_bytes : goal.returns-in_err-functions_bytes
returns-in_err-functions_bytes c =
    let part = parts_le function_bytes (λ o. o.funs) c.args.objects.now c.loop-object.object-index c.object-item.result c.loop-object-test.true c.object-item.is in
    let own = ap (sum_by function_bytes) c.as_slice.ensures in
    rw c.from_residual.ensures (omega (arith, part, own, c.in_err-functions_bytes.ensures))

pub returns-in_err-bytes : goal.returns-in_err-bytes
returns-in_err-bytes c =
    let part = parts_le function_bytes (λ o. o.funs) c.args.objects.now c.loop-object.object-index c.object-item.result c.loop-object-test.true c.object-item.is in
    let own = ap (sum_by function_bytes) c.as_slice.ensures in
    rw c.from_residual-in_err-bytes.ensures
    (omega (arith, part, own, c.loop-object.invariant, c.in_ok-functions_bytes.ensures, c.in_err-bytes.ensures))
