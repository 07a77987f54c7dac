-- A part that gives up leaves the parts before it, and its own first items.
use Rattle.std.proofs.Common.{◌≡◌, [], ◌∷◌, refl}
use Rattle.pw_tree.specs.TypedExpressions.{typed_expression_of}
use Rattle.pw_code.specs.ExpressionCode.{expression_code}
use Rattle.pw_gen.specs.Steps.StatementPieces.{store_variable}
use Rattle.pw_gen.proofs.Appended.{one_failed}
use Rattle.pw_gen.proofs.assignment.put_set_variable.Goals as goal

pub returns-in_err-emit_expr : goal.returns-in_err-emit_expr
returns-in_err-emit_expr c =
    one_failed c.args.to.now.items c.from_residual.result (expression_code c.args.frame.now 0 (typed_expression_of c.args.e.now)) (store_variable c.args.x.now) (expression_code c.args.frame.now 0 (typed_expression_of c.args.e.now)) c.emit_expr.new.to.items _ refl c.from_residual.ensures.1
    c.in_err-emit_expr.ensures
