-- The type of a typed tree is that of its node.
use Rattle.std.proofs.Common.{◌≡◌, refl, ap, ◌∙◌}
use Rattle.pw_tree.specs.TypedExpressions.{Mark, TypedExpression, typed_expression_form, typed_expression_step, typed_expression_of}
use Rattle.pw_tree.specs.declared.texpr.TExpr.{TExpr, out-TExpr}
use Rattle.pw_tree.specs.declared.texpr.TKind.{fold_out-TKind}
use Rattle.pw_tree.specs.declared.texpr.TKind.TheOpen.{TKind-F}
use Rattle.pw_tree.proofs.TreeFolds.{tree_of-out}
use Rattle.pw_tree.specs.TypedExpressions.{mark_of, type_of}

mark_of_form : (k : TKind-F (Mark → TypedExpression) TypedExpression) (at : Mark) → mark_of (typed_expression_form k at) ≡ at
mark_of_form (TKind-F.Num value) at = refl
mark_of_form (TKind-F.Local i) at = refl
mark_of_form (TKind-F.Var x) at = refl
mark_of_form (TKind-F.Fun f) at = refl
mark_of_form (TKind-F.Elem x size i) at = refl
mark_of_form (TKind-F.Unary op e) at = refl
mark_of_form (TKind-F.Binary op unsigned l r) at = refl
mark_of_form (TKind-F.Cond c a b) at = refl
mark_of_form (TKind-F.Call f arguments) at = refl
mark_of_form (TKind-F.CallPtr callee arguments) at = refl
mark_of_form TKind-F.Input at = refl
mark_of_form (TKind-F.Output e) at = refl

pub type_is : (t : TExpr) → type_of (typed_expression_of t) ≡ (out-TExpr t).ty
type_is t =
    ap type_of (tree_of-out t)
    ∙ (ap (λ (f : Mark → TypedExpression). type_of (f (record { ty = (out-TExpr t).ty; line = (out-TExpr t).line }))) (fold_out-TKind (Mark → TypedExpression) TypedExpression typed_expression_form typed_expression_step (out-TExpr t).kind)
    ∙ ap (λ (m : Mark). m.ty) (mark_of_form _ _))
