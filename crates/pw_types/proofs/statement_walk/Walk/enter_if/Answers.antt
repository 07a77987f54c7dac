-- The answers to the goals of `Walk::enter_if` in `src/statement_walk.rt`.
use Rattle.std.proofs.lemmas.Result.{err_from_is_err_and}
use Rattle.pw_types.proofs.EnteringStatements.{enters_if, if_fails}
use Rattle.pw_types.proofs.statement_walk.Walk.enter_if.Goals as goal

pub returns-in_err-c-clause-judged : goal.returns-in_err-c-clause-judged
returns-in_err-c-clause-judged c =
    let p = err_from_is_err_and c.from_residual.result c.from_residual.ensures.1 in
    λ at. rw (p.1, p.2) (if_fails c.args.setting.now c.args.self.now c.value.new.self at _ _ _ c.in_err-c.field-0.0 c.in_err-c.ensures)

pub returns-clause-judged : goal.returns-clause-judged
returns-clause-judged c =
    λ at. enters_if c.args.setting.now c.part.result c.outer-outer.result c.args.self.now c.value.new.self at _ c.args.a.now c.args.b c.in_ok-c.c
    c.in_ok-c.ensures.0 c.in_ok-c.ensures.1 c.outer-outer.ensures c.part.ensures
