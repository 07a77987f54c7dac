-- The answers to the goals of `down` in `src/expression_down.rt`.
use Rattle.std.proofs.Common.{◌<◌, IfOk, ap, sym, subst}
use Rattle.pw_tree.specs.Expressions.{Expression}
use Rattle.pw_types.specs.Steps.CheckingExpressions.{checked}
use Rattle.pw_types.specs.Steps.ResumingExpressions.{ContinuesWith, step_size, size}
use Rattle.pw_types.proofs.Phrases.{as_unary, as_binary, as_choice, as_call}
use Rattle.pw_types.proofs.expression_down.down.Goals as goal

pub returns-in-Unary-clause-continues : goal.returns-in-Unary-clause-continues
unfolding checked
returns-in-Unary-clause-continues c =
    ap (λ p. checked c.args.scope.now c.args.role p c.args.used.now.items)
    (as_unary c.args.e.now c.in-Unary.op c.in-Unary.x c.get.result.now c.in-Unary.is (sym c.get.ensures))

pub returns-in-Binary-clause-continues : goal.returns-in-Binary-clause-continues
unfolding checked
returns-in-Binary-clause-continues c =
    ap (λ p. checked c.args.scope.now c.args.role p c.args.used.now.items)
    (as_binary c.args.e.now c.in-Binary.op c.in-Binary.l c.in-Binary.r c.get-in-Binary-2.result.now c.get-in-Binary.result.now c.in-Binary.is
    (sym c.get-in-Binary-2.ensures) (sym c.get-in-Binary.ensures))

pub returns-in-Cond-clause-continues : goal.returns-in-Cond-clause-continues
unfolding checked
returns-in-Cond-clause-continues c =
    ap (λ p. checked c.args.scope.now c.args.role p c.args.used.now.items)
    (as_choice c.args.e.now c.in-Cond.c c.in-Cond.a c.in-Cond.b c.get-in-Cond-3.result.now c.get-in-Cond.result.now c.get-in-Cond-2.result.now c.in-Cond.is
    (sym c.get-in-Cond-3.ensures) (sym c.get-in-Cond.ensures) (sym c.get-in-Cond-2.ensures))

pub returns-in-Call-clause-continues : goal.returns-in-Call-clause-continues
unfolding checked
returns-in-Call-clause-continues c =
    let P : Expression → Type 0 = λ p. ContinuesWith c.args.scope.now (checked c.args.scope.now c.args.role p) c.args.used.now.items c.call.new.used.items c.call.result in
    subst P (sym (as_call c.args.e.now c.in-Call.callee c.get-in-Call.result.now c.in-Call.es c.as_slice.result.now c.in-Call.is
    (sym c.get-in-Call.ensures) (sym c.as_slice.ensures))) c.call.ensures.continues

pub returns-in-Call-clause-smaller : goal.returns-in-Call-clause-smaller
unfolding size
returns-in-Call-clause-smaller c =
    let P : Expression → Type 0 = λ p. IfOk c.call.result (λ step. step_size step < size p) in
    subst P (sym (as_call c.args.e.now c.in-Call.callee c.get-in-Call.result.now c.in-Call.es c.as_slice.result.now c.in-Call.is
    (sym c.get-in-Call.ensures) (sym c.as_slice.ensures))) c.call.ensures.smaller
