-- The answers to the goals of `call_through` in `src/expression_call.rt`.
use Rattle.std.proofs.Common.{◌≡◌, sym, ◌∙◌, subst, replicate}
use Rattle.pw_tree.specs.Expressions.{expressions_of}
use Rattle.pw_tree.specs.declared.ty.Ty.{Ty}
use Rattle.pw_tree.specs.declared.ty.Ty.TheVariants.{Long, Fn}
use Rattle.pw_types.specs.declared.rule.Rule.TheVariants.{NotCallable}
use Rattle.pw_tree.specs.TypedExpressions.{type_of}
use Rattle.pw_types.specs.Steps.Judging.{refuse, on_option}
use Rattle.pw_types.specs.Steps.CheckingExpressions.{through, calling, none_taken, fault_under, pointer_parameters, checked_arguments}
use Rattle.pw_types.specs.Steps.ResumingExpressions.{valued, Continues}
use Rattle.pw_types.proofs.expression_call.call_through.Goals as goal

pub returns-in-Fn-clause-continues : goal.returns-in-Fn-clause-continues
returns-in-Fn-clause-continues c = λ scope.
    let P : Ty → Type 0 = λ ty. Continues scope (on_option (pointer_parameters ty) (refuse (fault_under c.args.head NotCallable))
    (λ k. checked_arguments scope (calling c.args.head (through (valued c.args.callee)) (replicate k Long) (expressions_of c.args.es.now))
    none_taken (replicate k Long) (expressions_of c.args.es.now))) c.begin.result in
    let is : Fn c.in-Fn.k ≡ type_of (valued c.args.callee).tree = sym c.in-Fn.is ∙ c.type_of.ensures in
    subst P is (c.begin.ensures.continues scope)
