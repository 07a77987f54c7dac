-- The answers to the goals of `begin` in `src/expression_call.rt`.
use Rattle.std.proofs.Common.{Bool, List, [], map, subst}
use Rattle.pw_tree.specs.Expressions.{expressions_of}
use Rattle.pw_tree.specs.TypedExpressions.{typed_expression_of}
use Rattle.pw_tree.specs.declared.texpr.TExpr.{TExpr}
use Rattle.pw_types.specs.Steps.CheckingExpressions.{checked_arguments}
use Rattle.pw_types.specs.Steps.ResumingExpressions.{aim_of, listed, Continues}
use Rattle.pw_types.proofs.expression_call.begin.Goals as goal

pub returns-clause-continues : goal.returns-clause-continues
returns-clause-continues c = λ scope.
    let P : Bool → List TExpr → Type 0 = λ b ts. Continues scope (checked_arguments scope
    (record { head = c.args.head; aim = aim_of c.args.target; other_count = b }) (record { trees = map typed_expression_of ts; held = 0 })
    (listed c.args.params) (expressions_of c.args.es.now)) c.go_on.result in
    subst (λ b. P b []) c.is_other_count.ensures (subst (P c.is_other_count.result) c.new.ensures (c.go_on.ensures.continues scope))
