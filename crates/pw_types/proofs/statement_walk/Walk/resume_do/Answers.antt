-- The answers to the goals of `Walk::resume_do` in `src/statement_walk.rt`.
use Rattle.std.proofs.lemmas.Result.{err_from_is_err_and}
use Rattle.pw_tree.specs.TypedStatements.{typed_statement_of}
use Rattle.pw_types.proofs.ResumingStatements.{do_is_done, do_fails}
use Rattle.pw_types.proofs.statement_walk.Walk.resume_do.Goals as goal

pub returns-in_err-c : goal.returns-in_err-c
returns-in_err-c c =
    let p = err_from_is_err_and c.from_residual.result c.from_residual.ensures.1 in
    rw (p.1, p.2) (do_fails c.args.outer.now c.args.self.now c.leave.new.self c.value.new.self _ (typed_statement_of c.args.typed) c.in_err-c.field-0.0 c.leave.ensures c.in_err-c.ensures)

pub returns : goal.returns
returns c =
    rw c.into_inner.ensures (do_is_done c.args.outer.now c.args.self.now c.leave.new.self c.value.new.self _ c.args.typed c.in_ok-c.c
    c.leave.ensures c.in_ok-c.ensures.0 c.in_ok-c.ensures.1)
