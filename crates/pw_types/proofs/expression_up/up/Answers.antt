-- The answers to the goals of `up` in `src/expression_up.rt`.
use Rattle.std.proofs.Common.{sym, subst}
use Rattle.pw_types.specs.declared.expression_step.ExpressionFrame.{ExpressionFrame}
use Rattle.pw_types.specs.Steps.ResumingExpressions.{valued, resumed, Continues}
use Rattle.pw_types.proofs.expression_up.up.Goals as goal

pub returns-in-Callee-clause-continues : goal.returns-in-Callee-clause-continues
returns-in-Callee-clause-continues c = λ scope.
    let P : ExpressionFrame → Type 0 = λ f. Continues scope (resumed scope f (valued c.args.typed)) c.call_through.result in
    subst P (sym c.in-Callee.is) (c.call_through.ensures.continues scope)

pub returns-in-Argument-clause-continues : goal.returns-in-Argument-clause-continues
returns-in-Argument-clause-continues c = λ scope.
    let P : ExpressionFrame → Type 0 = λ f. Continues scope (resumed scope f (valued c.args.typed)) c.after_argument.result in
    subst P (sym c.in-Argument.is) (c.after_argument.ensures.continues scope)
