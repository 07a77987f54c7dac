-- The answers to the goals of `call_function` in `src/expression_call.rt`.
use Rattle.std.proofs.Common.{List, subst}
use Rattle.pw_tree.specs.Expressions.{expressions_of}
use Rattle.pw_tree.specs.declared.ty.Ty.{Ty}
use Rattle.pw_tree.specs.declared.ty.Ref.{Ref}
use Rattle.pw_types.specs.Scopes.{function_reference}
use Rattle.pw_types.specs.Steps.CheckingExpressions.{named, calling, none_taken, checked_arguments}
use Rattle.pw_types.specs.Steps.ResumingExpressions.{Continues}
use Rattle.pw_types.proofs.expression_call.call_function.Goals as goal

pub returns-clause-continues : goal.returns-clause-continues
returns-clause-continues c =
    let P : Ref → List Ty → Type 0 = λ r params. Continues c.args.scope.now (checked_arguments c.args.scope.now
    (calling c.args.head (named r c.args.sig.now.result) params (expressions_of c.args.es.now)) none_taken params (expressions_of c.args.es.now)) c.begin.result in
    subst (P (function_reference c.args.scope.now c.args.file.now)) c.as_slice.ensures
    (subst (λ r. P r c.as_slice.result.now) c.in_ok-name.ensures (c.begin.ensures.continues c.args.scope.now))
