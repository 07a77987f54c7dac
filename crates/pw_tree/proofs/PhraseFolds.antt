-- The equations of the plain trees of expressions, one for each form.
use Rattle.std.proofs.Common.{◌≡◌, ℕ, Bool, List, sym, ap, ◌∙◌}
use Rattle.pw_tree.specs.Expressions.{Span, Expression, constant, word, unary, binary, conditional, call, index, input, output, expression_form, expression_step, expression_of, expression_form_of, expressions_of}
use Rattle.pw_tree.specs.declared.operator.Un.{Un}
use Rattle.pw_tree.specs.declared.operator.Bin.{Bin}
use Rattle.pw_tree.specs.declared.expr.Expr.{Expr, out-Expr, fold_out-Expr}
use Rattle.pw_tree.specs.declared.expr.ExprKind.{fold-roll-ExprKind}
use Rattle.pw_tree.specs.declared.expr.ExprKind.TheOpen.{ExprKind-F}
use Rattle.pw_tree.specs.declared.expr.ExprKind.TheVariants as kinds
use Rattle.pw_tree.specs.declared.expr.ExprKind.TheVariants.{rolls-Num, rolls-Word, rolls-Unary, rolls-Binary, rolls-Cond, rolls-Call, rolls-Index, rolls-Input, rolls-Output}

-- An expression is its form at its place.
pub phrase_of-out : (e : Expr) →
    expression_of e ≡ expression_form_of (out-Expr e).kind (record { first = (out-Expr e).first; last = (out-Expr e).last; line = (out-Expr e).line })
phrase_of-out e = fold_out-Expr (Span → Expression) Expression expression_form expression_step e

pub form_of-Num : (value : ℕ) (unsigned : Bool) → expression_form_of (kinds.Num value unsigned) ≡ (λ at. constant at value unsigned)
form_of-Num value unsigned = ap expression_form_of (sym (rolls-Num value unsigned)) ∙ fold-roll-ExprKind (Span → Expression) Expression expression_form expression_step (ExprKind-F.Num value unsigned)

pub form_of-Word : (name : List ℕ) → expression_form_of (kinds.Word name) ≡ (λ at. word at name)
form_of-Word name = ap expression_form_of (sym (rolls-Word name)) ∙ fold-roll-ExprKind (Span → Expression) Expression expression_form expression_step (ExprKind-F.Word name)

pub form_of-Unary : (op : Un) (e : Expr) → expression_form_of (kinds.Unary op e) ≡ (λ at. unary at op (expression_of e))
form_of-Unary op e = ap expression_form_of (sym (rolls-Unary op e)) ∙ fold-roll-ExprKind (Span → Expression) Expression expression_form expression_step (ExprKind-F.Unary op e)

pub form_of-Binary : (op : Bin) (l r : Expr) → expression_form_of (kinds.Binary op l r) ≡ (λ at. binary at op (expression_of l) (expression_of r))
form_of-Binary op l r = ap expression_form_of (sym (rolls-Binary op l r)) ∙ fold-roll-ExprKind (Span → Expression) Expression expression_form expression_step (ExprKind-F.Binary op l r)

pub form_of-Cond : (c a b : Expr) →
    expression_form_of (kinds.Cond c a b) ≡ (λ at. conditional at (expression_of c) (expression_of a) (expression_of b))
form_of-Cond c a b = ap expression_form_of (sym (rolls-Cond c a b)) ∙ fold-roll-ExprKind (Span → Expression) Expression expression_form expression_step (ExprKind-F.Cond c a b)

pub form_of-Call : (callee : Expr) (es : List Expr) →
    expression_form_of (kinds.Call callee es) ≡ (λ at. call at (expression_of callee) (expressions_of es))
form_of-Call callee es = ap expression_form_of (sym (rolls-Call callee es)) ∙ fold-roll-ExprKind (Span → Expression) Expression expression_form expression_step (ExprKind-F.Call callee es)

pub form_of-Index : (base i : Expr) → expression_form_of (kinds.Index base i) ≡ (λ at. index at (expression_of base) (expression_of i))
form_of-Index base i = ap expression_form_of (sym (rolls-Index base i)) ∙ fold-roll-ExprKind (Span → Expression) Expression expression_form expression_step (ExprKind-F.Index base i)

pub form_of-Input : expression_form_of kinds.Input ≡ (λ at. input at)
form_of-Input = ap expression_form_of (sym rolls-Input) ∙ fold-roll-ExprKind (Span → Expression) Expression expression_form expression_step ExprKind-F.Input

pub form_of-Output : (e : Expr) → expression_form_of (kinds.Output e) ≡ (λ at. output at (expression_of e))
form_of-Output e = ap expression_form_of (sym (rolls-Output e)) ∙ fold-roll-ExprKind (Span → Expression) Expression expression_form expression_step (ExprKind-F.Output e)
