-- Three parts are appended, or the first ones of them.
use Rattle.std.proofs.Common.{◌≡◌, [], ◌∷◌, refl}
use Rattle.pw_tree.specs.TypedExpressions.{typed_expression_of}
use Rattle.pw_code.specs.Pieces.{check_index, hold}
use Rattle.pw_code.specs.ExpressionCode.{expression_code}
use Rattle.pw_gen.proofs.Appended.{three_done, first_failed, second_failed}
use Rattle.pw_gen.proofs.assignment.put_index.Goals as goal

pub returns-in_err-emit_expr : goal.returns-in_err-emit_expr
returns-in_err-emit_expr c =
    let code = expression_code c.args.frame.now 0 (typed_expression_of c.args.i.now) in
    first_failed c.args.to.now.items c.from_residual.result code (check_index c.args.size c.args.line) (hold c.args.frame.now 0 ∷ []) code
    c.emit_expr.new.to.items _ refl c.from_residual.ensures.1 c.in_err-emit_expr.ensures

pub returns-in_err-put_check_index : goal.returns-in_err-put_check_index
returns-in_err-put_check_index c =
    let code = expression_code c.args.frame.now 0 (typed_expression_of c.args.i.now) in
    let check = check_index c.args.size c.args.line in
    second_failed c.args.to.now.items c.from_residual-in_err-put_check_index.result code check (hold c.args.frame.now 0 ∷ []) code check
    c.emit_expr.new.to.items c.put_check_index.new.to.items _ refl refl c.in_ok-emit_expr.ensures c.from_residual-in_err-put_check_index.ensures.1
    c.in_err-put_check_index.ensures

pub returns : goal.returns
returns c =
    let code = expression_code c.args.frame.now 0 (typed_expression_of c.args.i.now) in
    let check = check_index c.args.size c.args.line in
    three_done c.args.to.now.items c.put_hold.result code check (hold c.args.frame.now 0 ∷ []) code check (hold c.args.frame.now 0 ∷ [])
    c.emit_expr.new.to.items c.put_check_index.new.to.items c.put_hold.new.to.items refl refl refl
    c.in_ok-emit_expr.ensures c.in_ok-put_check_index.ensures c.put_hold.ensures
