-- The answers to the goals of `Walk::statements` in `src/statement_walk.rt`.
use Rattle.std.proofs.Common.{ap, ◌∙◌}
use Rattle.std.proofs.lemmas.Result.{err_from_is_err_and}
use Rattle.pw_tree.specs.Statements.{Statements, statement_of, statements_of}
use Rattle.pw_types.specs.Steps.CheckingStatements.{sequence_at}
use Rattle.pw_types.proofs.EnteringStatements.{parted}
use Rattle.pw_types.proofs.StatementSequences.{one_less, one_fails}
use Rattle.pw_types.proofs.statement_walk.Walk.statements.Goals as goal

pub returns-in_err-typed : goal.returns-in_err-typed
returns-in_err-typed c =
    let p = err_from_is_err_and c.from_residual.result c.from_residual.ensures.1 in
    let parts = parted c.row.rest.now c.stmt-item.result c.in-len1-up.len_at_least c.stmt-item.is in
    rw (p.1, p.2) (one_fails c.args.setting.now c.args.self.now c.row.self c.row.done (statements_of c.args.body.now) (statement_of c.stmt-item.result) _ c.in_err-typed.field-0.0
    (c.row.invariant ∙ ap (λ (ss : Statements). sequence_at c.args.setting.now c.row.self c.row.done ss) parts) c.in_err-typed.ensures)

pub row-preserved : goal.row-preserved
row-preserved c =
    let parts = parted c.row.rest.now c.stmt-item.result c.in-len1-up.len_at_least c.stmt-item.is in
    c.row.invariant
    ∙ (ap (λ (ss : Statements). sequence_at c.args.setting.now c.row.self c.row.done ss) parts
    ∙ one_less c.args.setting.now c.row.self c.statement.new.self c.row.done c.push.new.items c.in_ok-typed.typed (statement_of c.stmt-item.result) _
    c.in_ok-typed.ensures (rw c.into_inner.ensures at c.in_ok-push.ensures))
