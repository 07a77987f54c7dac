-- The place of a phrase is that of its node.
use Rattle.std.proofs.Common.{◌≡◌, refl, ap, ◌∙◌}
use Rattle.pw_tree.specs.Expressions.{Span, Expression, expression_form, expression_step, expression_of}
use Rattle.pw_tree.specs.Placed as placed
use Rattle.pw_tree.specs.declared.expr.Expr.{Expr, out-Expr}
use Rattle.pw_tree.specs.declared.expr.ExprKind.{fold_out-ExprKind}
use Rattle.pw_tree.specs.declared.expr.ExprKind.TheOpen.{ExprKind-F}
use Rattle.pw_tree.proofs.PhraseFolds.{phrase_of-out}

place_of_form : (k : ExprKind-F (Span → Expression) Expression) (at : Span) → placed.span_of (expression_form k at) ≡ at
place_of_form (ExprKind-F.Num value unsigned) at = refl
place_of_form (ExprKind-F.Word name) at = refl
place_of_form (ExprKind-F.Unary op e) at = refl
place_of_form (ExprKind-F.Binary op l r) at = refl
place_of_form (ExprKind-F.Cond c a b) at = refl
place_of_form (ExprKind-F.Call callee arguments) at = refl
place_of_form (ExprKind-F.Index base i) at = refl
place_of_form ExprKind-F.Input at = refl
place_of_form (ExprKind-F.Output e) at = refl

pub place_is : (e : Expr) →
    placed.span_of (expression_of e) ≡ record { first = (out-Expr e).first; last = (out-Expr e).last; line = (out-Expr e).line }
place_is e =
    ap placed.span_of (phrase_of-out e)
    ∙ (ap (λ (f : Span → Expression). placed.span_of (f (record { first = (out-Expr e).first; last = (out-Expr e).last; line = (out-Expr e).line })))
    (fold_out-ExprKind (Span → Expression) Expression expression_form expression_step (out-Expr e).kind)
    ∙ place_of_form _ _)
