-- The answers to the goals of `Walk::enter_block` in `src/statement_walk.rt`.
use Rattle.std.proofs.Common.{arith, Ok}
use Rattle.pw_types.proofs.EnteringStatements.{enters_block, enters_no_block, parted, none_left}
use Rattle.pw_types.specs.Steps.StatementWeights.{weight_of_all}
use Rattle.pw_types.proofs.StatementForms.{finished_steps, nothing_left}
use Rattle.pw_tree.specs.declared.tstmt.TStmt.TheVariants as kinds
use Rattle.pw_types.proofs.statement_walk.Walk.enter_block.Goals as goal

pub returns-in-empty-clause-judged : goal.returns-in-empty-clause-judged
returns-in-empty-clause-judged c =
    λ at. finished_steps _ c.args.self.now (Ok (kinds.Block c.new-before.result)) c.done.result c.done.ensures
    (enters_no_block c.args.setting.now c.args.self.now at _ c.new-before.result (none_left c.args.body.now c.in-empty.len_below) c.new-before.ensures)

pub returns-in-empty-clause-less : goal.returns-in-empty-clause-less
returns-in-empty-clause-less c = nothing_left _ (Ok (kinds.Block c.new-before.result)) c.done.result c.done.ensures (omega arith)

pub returns-in-len1-up-clause-judged : goal.returns-in-len1-up-clause-judged
returns-in-len1-up-clause-judged c =
    let parts = parted c.args.body.now c.first-item.result c.in-len1-up.len_at_least c.first-item.is in
    λ at. enters_block c.args.setting.now c.part.result c.outer-outer.result c.args.self.now at _ c.first-item.result _ c.new-before.result
    parts c.new-before.ensures c.outer-outer.ensures c.part.ensures

pub returns-in-len1-up-clause-less : goal.returns-in-len1-up-clause-less
unfolding weight_of_all
returns-in-len1-up-clause-less c =
    let parts = parted c.args.body.now c.first-item.result c.in-len1-up.len_at_least c.first-item.is in
    rw parts (omega arith)
