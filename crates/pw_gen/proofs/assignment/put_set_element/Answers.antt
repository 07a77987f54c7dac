-- The index, the value and the store are appended, or the first ones of them.
use Rattle.std.proofs.Common.{◌≡◌, [], ◌∷◌, ◌++◌, refl, sym, ap, subst, append_assoc}
use Rattle.pw_tree.specs.TypedExpressions.{typed_expression_of}
use Rattle.pw_code.specs.Pieces.{check_index, hold}
use Rattle.pw_code.specs.ExpressionCode.{expression_code}
use Rattle.pw_genexpr.specs.Appends.{Appends}
use Rattle.pw_gen.specs.Steps.StatementPieces.{index_code, store_element}
use Rattle.pw_gen.proofs.Appended.{three_done, first_failed, second_failed}
use Rattle.pw_gen.proofs.assignment.put_set_element.Goals as goal

pub returns-in_err-put_index : goal.returns-in_err-put_index
returns-in_err-put_index c =
    let frame = c.args.frame.now in
    let i = typed_expression_of c.args.i.now in
    let index = index_code frame c.args.bound.0 c.args.bound.1 i in
    let value = expression_code frame 1 (typed_expression_of c.args.e.now) in
    let store = store_element frame c.args.a.now in
    subst (λ l. Appends l c.args.to.now.items c.put_index.new.to.items c.from_residual.result)
    (ap (λ l. l ++ store) (append_assoc (expression_code frame 0 i ++ check_index c.args.bound.0 c.args.bound.1) (hold frame 0 ∷ []) value))
    (first_failed c.args.to.now.items c.from_residual.result index value store index c.put_index.new.to.items _ refl c.from_residual.ensures.1
    c.in_err-put_index.ensures)

pub returns-in_err-emit_expr : goal.returns-in_err-emit_expr
returns-in_err-emit_expr c =
    let frame = c.args.frame.now in
    let i = typed_expression_of c.args.i.now in
    let index = index_code frame c.args.bound.0 c.args.bound.1 i in
    let value = expression_code frame 1 (typed_expression_of c.args.e.now) in
    let store = store_element frame c.args.a.now in
    subst (λ l. Appends l c.args.to.now.items c.emit_expr.new.to.items c.from_residual-in_err-emit_expr.result)
    (ap (λ l. l ++ store) (append_assoc (expression_code frame 0 i ++ check_index c.args.bound.0 c.args.bound.1) (hold frame 0 ∷ []) value))
    (second_failed c.args.to.now.items c.from_residual-in_err-emit_expr.result index value store index value c.put_index.new.to.items
    c.emit_expr.new.to.items _ refl refl c.in_ok-put_index.ensures c.from_residual-in_err-emit_expr.ensures.1 c.in_err-emit_expr.ensures)

pub returns : goal.returns
returns c =
    let frame = c.args.frame.now in
    let i = typed_expression_of c.args.i.now in
    let index = index_code frame c.args.bound.0 c.args.bound.1 i in
    let value = expression_code frame 1 (typed_expression_of c.args.e.now) in
    let store = store_element frame c.args.a.now in
    subst (λ l. Appends l c.args.to.now.items c.put_store_element.new.to.items c.put_store_element.result)
    (ap (λ l. l ++ store) (append_assoc (expression_code frame 0 i ++ check_index c.args.bound.0 c.args.bound.1) (hold frame 0 ∷ []) value))
    (three_done c.args.to.now.items c.put_store_element.result index value store index value store c.put_index.new.to.items
    c.emit_expr.new.to.items c.put_store_element.new.to.items refl refl refl c.in_ok-put_index.ensures c.in_ok-emit_expr.ensures
    c.put_store_element.ensures)
