-- The answers to the goals of `Walk::resume_block` in `src/statement_walk.rt`.
use Rattle.std.proofs.Common.{arith, Ok}
use Rattle.pw_types.specs.Steps.StatementWeights.{weight_of_all}
use Rattle.pw_types.proofs.EnteringStatements.{parted, none_left}
use Rattle.pw_types.proofs.ResumingStatements.{block_is_done, block_waits}
use Rattle.pw_types.proofs.StatementForms.{finished_steps, nothing_left}
use Rattle.pw_tree.specs.declared.tstmt.TStmt.TheVariants as kinds
use Rattle.pw_types.proofs.statement_walk.Walk.resume_block.Goals as goal

pub returns-in-empty-clause-judged : goal.returns-in-empty-clause-judged
returns-in-empty-clause-judged c =
    finished_steps _ c.leave.new.self (Ok (kinds.Block c.push.new.items)) c.done.result c.done.ensures
    (block_is_done c.args.outer.now c.args.self.now c.leave.new.self c.args.before c.push.new.items c.args.typed c.args.rest.now
    (none_left c.args.rest.now c.in-empty.len_below) (rw c.into_inner.ensures at c.in_ok-push.ensures) c.leave.ensures)

pub returns-in-empty-clause-less : goal.returns-in-empty-clause-less
returns-in-empty-clause-less c = nothing_left _ (Ok (kinds.Block c.push.new.items)) c.done.result c.done.ensures (omega arith)

pub returns-in-len1-up-clause-judged : goal.returns-in-len1-up-clause-judged
returns-in-len1-up-clause-judged c =
    block_waits c.args.outer.now c.part.result c.args.self.now c.args.before c.push.new.items c.args.typed c.args.rest.now _ c.first-item.result
    (parted c.args.rest.now c.first-item.result c.in-len1-up.len_at_least c.first-item.is) (rw c.into_inner.ensures at c.in_ok-push.ensures) c.part.ensures

pub returns-in-len1-up-clause-less : goal.returns-in-len1-up-clause-less
unfolding weight_of_all
returns-in-len1-up-clause-less c =
    let parts = parted c.args.rest.now c.first-item.result c.in-len1-up.len_at_least c.first-item.is in
    rw parts (omega arith)
