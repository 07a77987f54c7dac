-- The answers to the goals of `Walk::resume_for` in `src/statement_walk.rt`.
use Rattle.pw_types.proofs.ResumingStatements.{for_is_done}
use Rattle.pw_types.proofs.statement_walk.Walk.resume_for.Goals as goal

pub returns : goal.returns
returns c =
    rw c.unboxed.ensures (for_is_done c.args.outer.now c.args.self.now c.leave.new.self c.args.first c.args.c c.args.last c.args.typed c.leave.ensures)
