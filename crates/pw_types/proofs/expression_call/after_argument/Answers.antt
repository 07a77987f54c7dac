-- The answers to the goals of `after_argument` in `src/expression_call.rt`.
use Rattle.std.proofs.Common.{subst}
use Rattle.pw_tree.specs.Expressions.{expressions_of}
use Rattle.pw_types.specs.Steps.CheckingExpressions.{Taken, checked_arguments}
use Rattle.pw_types.specs.Steps.ResumingExpressions.{calling_of, listed, Continues}
use Rattle.pw_types.proofs.expression_call.after_argument.Goals as goal

pub returns-clause-continues : goal.returns-clause-continues
returns-clause-continues c = λ scope.
    let P : Taken → Type 0 = λ t. Continues scope
    (checked_arguments scope (calling_of c.args.call) t (listed c.args.params) (expressions_of c.args.rest.now)) c.go_on.result in
    subst P c.in_ok-take.ensures (c.go_on.ensures.continues scope)
