-- The first fault of the link is the answer.
use Rattle.std.proofs.Common.{subst, Err}
use Rattle.std.proofs.lemmas.Result.{err_from_is_err_and}
use Rattle.pw_place.specs.Merging.{Merges}
use Rattle.pw_place.specs.declared.externals.Externals.{Externals}
use Rattle.pw_place.proofs.Faults.{merges_not}
use Rattle.pw_place.proofs.merging.merge.Goals as goal

pub returns-in_err-externals : goal.returns-in_err-externals
returns-in_err-externals c =
    let p = err_from_is_err_and c.from_residual.result c.from_residual.ensures.1 in
    let refused = merges_not Externals c.args.kind c.as_slice.result.now _ c.in_err-externals.ensures.fault in
    rw (p.1, p.2) (subst (λ objects. Merges c.args.kind objects (Err c.in_err-externals.field-0.0)) c.as_slice.ensures refused)
