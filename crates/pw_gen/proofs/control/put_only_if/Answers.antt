-- A part that gives up leaves the parts before it, and its own first items.
use Rattle.std.proofs.Common.{◌≡◌, [], ◌∷◌, refl}
use Rattle.pw_tree.specs.TypedExpressions.{typed_expression_of}
use Rattle.pw_code.specs.ExpressionCode.{expression_code}
use Rattle.pw_code.specs.Pieces.{unless_zero}
use Rattle.pw_gen.proofs.Appended.{one_failed, two_done}
use Rattle.pw_gen.proofs.control.put_only_if.Goals as goal

pub returns-in_err-emit_expr : goal.returns-in_err-emit_expr
returns-in_err-emit_expr c =
    one_failed c.args.to.now.items c.from_residual.result (expression_code c.args.frame.now 0 (typed_expression_of c.args.c.now)) (unless_zero c.args.words) (expression_code c.args.frame.now 0 (typed_expression_of c.args.c.now)) c.emit_expr.new.to.items _ refl c.from_residual.ensures.1
    c.in_err-emit_expr.ensures

pub returns : goal.returns
returns c =
    two_done c.args.to.now.items c.put_unless_zero.result (expression_code c.args.frame.now 0 (typed_expression_of c.args.c.now)) (unless_zero c.args.words) (expression_code c.args.frame.now 0 (typed_expression_of c.args.c.now)) (unless_zero c.args.words) c.emit_expr.new.to.items c.put_unless_zero.new.to.items refl refl
    c.in_ok-emit_expr.ensures c.put_unless_zero.ensures
