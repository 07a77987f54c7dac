-- The equations of the plain trees of typed expressions, one for each form.
use Rattle.std.proofs.Common.{◌≡◌, ℕ, Bool, List, sym, ap, ◌∙◌}
use Rattle.pw_tree.specs.TypedExpressions.{Mark, TypedExpression, constant, local, variable, designator, element, unary, binary, conditional, call, call_pointer, input, output, typed_expression_form, typed_expression_step, typed_expression_of, typed_expression_form_of, typed_expressions_of}
use Rattle.pw_tree.specs.declared.operator.Un.{Un}
use Rattle.pw_tree.specs.declared.operator.Bin.{Bin}
use Rattle.pw_tree.specs.declared.ty.Ref.{Ref}
use Rattle.pw_tree.specs.declared.texpr.TExpr.{TExpr, out-TExpr, fold_out-TExpr}
use Rattle.pw_tree.specs.declared.texpr.TKind.{fold-roll-TKind}
use Rattle.pw_tree.specs.declared.texpr.TKind.TheOpen.{TKind-F}
use Rattle.pw_tree.specs.declared.texpr.TKind.TheVariants as kinds
use Rattle.pw_tree.specs.declared.texpr.TKind.TheVariants.{rolls-Num, rolls-Local, rolls-Var, rolls-Fun, rolls-Elem, rolls-Unary, rolls-Binary, rolls-Cond, rolls-Call, rolls-CallPtr, rolls-Input, rolls-Output}

-- A typed expression is its form under its mark.
pub tree_of-out : (e : TExpr) →
    typed_expression_of e ≡ typed_expression_form_of (out-TExpr e).kind (record { ty = (out-TExpr e).ty; line = (out-TExpr e).line })
tree_of-out e = fold_out-TExpr (Mark → TypedExpression) TypedExpression typed_expression_form typed_expression_step e

pub tree_form_of-Num : (value : ℕ) → typed_expression_form_of (kinds.Num value) ≡ (λ at. constant at value)
tree_form_of-Num value = ap typed_expression_form_of (sym (rolls-Num value)) ∙ fold-roll-TKind (Mark → TypedExpression) TypedExpression typed_expression_form typed_expression_step (TKind-F.Num value)

pub tree_form_of-Local : (i : ℕ) → typed_expression_form_of (kinds.Local i) ≡ (λ at. local at i)
tree_form_of-Local i = ap typed_expression_form_of (sym (rolls-Local i)) ∙ fold-roll-TKind (Mark → TypedExpression) TypedExpression typed_expression_form typed_expression_step (TKind-F.Local i)

pub tree_form_of-Var : (x : Ref) → typed_expression_form_of (kinds.Var x) ≡ (λ at. variable at x)
tree_form_of-Var x = ap typed_expression_form_of (sym (rolls-Var x)) ∙ fold-roll-TKind (Mark → TypedExpression) TypedExpression typed_expression_form typed_expression_step (TKind-F.Var x)

pub tree_form_of-Fun : (f : Ref) → typed_expression_form_of (kinds.Fun f) ≡ (λ at. designator at f)
tree_form_of-Fun f = ap typed_expression_form_of (sym (rolls-Fun f)) ∙ fold-roll-TKind (Mark → TypedExpression) TypedExpression typed_expression_form typed_expression_step (TKind-F.Fun f)

pub tree_form_of-Elem : (x : Ref) (size : ℕ) (i : TExpr) →
    typed_expression_form_of (kinds.Elem x size i) ≡ (λ at. element at x size (typed_expression_of i))
tree_form_of-Elem x size i = ap typed_expression_form_of (sym (rolls-Elem x size i)) ∙ fold-roll-TKind (Mark → TypedExpression) TypedExpression typed_expression_form typed_expression_step (TKind-F.Elem x size i)

pub tree_form_of-Unary : (op : Un) (e : TExpr) → typed_expression_form_of (kinds.Unary op e) ≡ (λ at. unary at op (typed_expression_of e))
tree_form_of-Unary op e = ap typed_expression_form_of (sym (rolls-Unary op e)) ∙ fold-roll-TKind (Mark → TypedExpression) TypedExpression typed_expression_form typed_expression_step (TKind-F.Unary op e)

pub tree_form_of-Binary : (op : Bin) (unsigned : Bool) (l r : TExpr) →
    typed_expression_form_of (kinds.Binary op unsigned l r) ≡ (λ at. binary at op unsigned (typed_expression_of l) (typed_expression_of r))
tree_form_of-Binary op unsigned l r = ap typed_expression_form_of (sym (rolls-Binary op unsigned l r)) ∙ fold-roll-TKind (Mark → TypedExpression) TypedExpression typed_expression_form typed_expression_step (TKind-F.Binary op unsigned l r)

pub tree_form_of-Cond : (c a b : TExpr) →
    typed_expression_form_of (kinds.Cond c a b) ≡ (λ at. conditional at (typed_expression_of c) (typed_expression_of a) (typed_expression_of b))
tree_form_of-Cond c a b = ap typed_expression_form_of (sym (rolls-Cond c a b)) ∙ fold-roll-TKind (Mark → TypedExpression) TypedExpression typed_expression_form typed_expression_step (TKind-F.Cond c a b)

pub tree_form_of-Call : (f : Ref) (es : List TExpr) → typed_expression_form_of (kinds.Call f es) ≡ (λ at. call at f (typed_expressions_of es))
tree_form_of-Call f es = ap typed_expression_form_of (sym (rolls-Call f es)) ∙ fold-roll-TKind (Mark → TypedExpression) TypedExpression typed_expression_form typed_expression_step (TKind-F.Call f es)

pub tree_form_of-CallPtr : (callee : TExpr) (es : List TExpr) →
    typed_expression_form_of (kinds.CallPtr callee es) ≡ (λ at. call_pointer at (typed_expression_of callee) (typed_expressions_of es))
tree_form_of-CallPtr callee es = ap typed_expression_form_of (sym (rolls-CallPtr callee es)) ∙ fold-roll-TKind (Mark → TypedExpression) TypedExpression typed_expression_form typed_expression_step (TKind-F.CallPtr callee es)

pub tree_form_of-Input : typed_expression_form_of kinds.Input ≡ (λ at. input at)
tree_form_of-Input = ap typed_expression_form_of (sym rolls-Input) ∙ fold-roll-TKind (Mark → TypedExpression) TypedExpression typed_expression_form typed_expression_step TKind-F.Input

pub tree_form_of-Output : (e : TExpr) → typed_expression_form_of (kinds.Output e) ≡ (λ at. output at (typed_expression_of e))
tree_form_of-Output e = ap typed_expression_form_of (sym (rolls-Output e)) ∙ fold-roll-TKind (Mark → TypedExpression) TypedExpression typed_expression_form typed_expression_step (TKind-F.Output e)
