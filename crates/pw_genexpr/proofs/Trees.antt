-- The plain trees of typed expressions, by their forms.
use Rattle.std.proofs.Common.{◌≡◌, ℕ, List, ap, ◌∙◌}
use Rattle.pw_tree.specs.declared.operator.Un.{Un}
use Rattle.pw_tree.specs.declared.ty.Ref.{Ref}
use Rattle.pw_tree.specs.declared.texpr.TExpr.{TExpr, out-TExpr}
use Rattle.pw_tree.specs.declared.texpr.TKind.TheVariants as kinds
use Rattle.pw_tree.specs.TypedExpressions.{Mark, element, unary, call, call_pointer, output, typed_expression_of, typed_expression_form_of, typed_expressions_of}
use Rattle.pw_tree.proofs.TreeFolds.{tree_of-out, tree_form_of-Elem, tree_form_of-Unary, tree_form_of-Output, tree_form_of-Call, tree_form_of-CallPtr}

-- the mark of an expression
abbrev pub mark : TExpr → Mark
mark e = record { ty = (out-TExpr e).ty; line = (out-TExpr e).line }

pub typed_call : (e : TExpr) (f : Ref) (es : List TExpr) → (out-TExpr e).kind ≡ kinds.Call f es →
    typed_expression_of e ≡ call (mark e) f (typed_expressions_of es)
typed_call e f es h =
    tree_of-out e ∙ ap (λ k. typed_expression_form_of k (mark e)) h ∙ ap (λ g. g (mark e)) (tree_form_of-Call f es)

pub typed_call_pointer : (e callee : TExpr) (es : List TExpr) → (out-TExpr e).kind ≡ kinds.CallPtr callee es →
    typed_expression_of e ≡ call_pointer (mark e) (typed_expression_of callee) (typed_expressions_of es)
typed_call_pointer e callee es h =
    tree_of-out e ∙ ap (λ k. typed_expression_form_of k (mark e)) h ∙ ap (λ g. g (mark e)) (tree_form_of-CallPtr callee es)

pub typed_element : (e : TExpr) (a : Ref) (n : ℕ) (i : TExpr) → (out-TExpr e).kind ≡ kinds.Elem a n i →
    typed_expression_of e ≡ element (mark e) a n (typed_expression_of i)
typed_element e a n i h =
    tree_of-out e ∙ ap (λ k. typed_expression_form_of k (mark e)) h ∙ ap (λ g. g (mark e)) (tree_form_of-Elem a n i)

pub typed_unary : (e : TExpr) (op : Un) (operand : TExpr) → (out-TExpr e).kind ≡ kinds.Unary op operand →
    typed_expression_of e ≡ unary (mark e) op (typed_expression_of operand)
typed_unary e op operand h =
    tree_of-out e ∙ ap (λ k. typed_expression_form_of k (mark e)) h ∙ ap (λ g. g (mark e)) (tree_form_of-Unary op operand)

pub typed_output : (e value : TExpr) → (out-TExpr e).kind ≡ kinds.Output value →
    typed_expression_of e ≡ output (mark e) (typed_expression_of value)
typed_output e value h =
    tree_of-out e ∙ ap (λ k. typed_expression_form_of k (mark e)) h ∙ ap (λ g. g (mark e)) (tree_form_of-Output value)
