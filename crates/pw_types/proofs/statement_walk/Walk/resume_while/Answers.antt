-- The answers to the goals of `Walk::resume_while` in `src/statement_walk.rt`.
use Rattle.pw_types.proofs.ResumingStatements.{while_is_done}
use Rattle.pw_types.proofs.statement_walk.Walk.resume_while.Goals as goal

pub returns : goal.returns
returns c =
    rw c.into_inner.ensures (while_is_done c.args.outer.now c.args.self.now c.leave.new.self c.args.c c.args.typed c.leave.ensures)
