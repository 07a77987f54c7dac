-- The value and the store are appended, or the first items of them.
use Rattle.std.proofs.Common.{◌≡◌, [], ◌∷◌, refl, sym, subst}
use Rattle.std.specs.Prelude.{option_map}
use Rattle.pw_isa.specs.Registers.{a0}
use Rattle.pw_tree.specs.TypedExpressions.{typed_expression_of}
use Rattle.pw_code.specs.ExpressionCode.{expression_code}
use Rattle.pw_code.specs.StatementCode.{set_local_code}
use Rattle.pw_genexpr.specs.Appends.{Appends}
use Rattle.pw_gen.specs.Steps.StatementPieces.{store_local}
use Rattle.pw_gen.proofs.Appended.{one_failed, two_done}
use Rattle.pw_gen.proofs.assignment.put_set_local.Goals as goal

pub returns-in_err-emit_expr-in-Some : goal.returns-in_err-emit_expr-in-Some
returns-in_err-emit_expr-in-Some c =
    let code = expression_code c.args.frame.now 0 (typed_expression_of c.in-Some.e) in
    subst (λ o. Appends (set_local_code c.args.frame.now c.args.number (option_map typed_expression_of o)) c.args.to.now.items c.emit_expr.new.to.items c.from_residual.result)
    (sym c.in-Some.is)
    (one_failed c.args.to.now.items c.from_residual.result code (store_local c.args.number a0) code c.emit_expr.new.to.items _ refl
    c.from_residual.ensures.1 c.in_err-emit_expr-in-Some.ensures)

pub returns-in_ok-emit_expr-in-Some : goal.returns-in_ok-emit_expr-in-Some
returns-in_ok-emit_expr-in-Some c =
    let code = expression_code c.args.frame.now 0 (typed_expression_of c.in-Some.e) in
    subst (λ o. Appends (set_local_code c.args.frame.now c.args.number (option_map typed_expression_of o)) c.args.to.now.items c.put_store_local-in-Some.new.to.items c.put_store_local-in-Some.result)
    (sym c.in-Some.is)
    (two_done c.args.to.now.items c.put_store_local-in-Some.result code (store_local c.args.number a0) code (store_local c.args.number a0)
    c.emit_expr.new.to.items c.put_store_local-in-Some.new.to.items refl refl c.in_ok-emit_expr-in-Some.ensures c.put_store_local-in-Some.ensures)
