-- The answers to the goals of `Walk::resume_else` in `src/statement_walk.rt`.
use Rattle.pw_types.proofs.ResumingStatements.{else_is_done}
use Rattle.pw_types.proofs.statement_walk.Walk.resume_else.Goals as goal

pub returns : goal.returns
returns c =
    rw c.into_inner.ensures (else_is_done c.args.outer.now c.args.self.now c.leave.new.self c.args.c c.args.a c.args.typed c.leave.ensures)
