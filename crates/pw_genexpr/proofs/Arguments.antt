-- Arguments, one after the other.
use Rattle.std.proofs.Common.{◌≡◌, ℕ, zero, suc, ◌+◌, ◌*◌, ◌<◌, ◌≤◌, List, [], ◌∷◌, length, get_or, drop, refl, sym, ap, ◌∙◌, arith, add-one, drop-cons}
use Rattle.pw_tree.specs.declared.texpr.TExpr.{TExpr}
use Rattle.pw_tree.specs.TypedExpressions.{typed_expression_of, typed_expressions_of}
use Rattle.pw_tree.specs.Held.{count}
use Rattle.pw_tree.specs.WellTypedExpressions.{ThroughoutAll, expressions_in_all}
use Rattle.pw_code.specs.Bounds.{HasShortCode}
use Rattle.pw_genexpr.specs.Steps.Emitting.{HaveShortCode}

pub count_of : (es : List TExpr) → count (typed_expressions_of es) ≡ length es
unfolding count
count_of [] = refl
count_of (e ∷ es) = ap suc (count_of es)

-- What is left at an argument is that and the others.
pub left_at : (es : List TExpr) (i : ℕ) (e : TExpr) → i < length es → e ≡ get_or es i e → drop i es ≡ e ∷ drop (i + 1) es
left_at es i e within is = drop-cons es i e within ∙ ap (λ x. x ∷ drop (suc i) es) (sym is) ∙ ap (λ n. e ∷ drop n es) (sym (add-one i))

pub short_first : (e : TExpr) (es : List TExpr) → HaveShortCode (typed_expressions_of (e ∷ es)) → HasShortCode (typed_expression_of e)
unfolding ThroughoutAll expressions_in_all
short_first e es h = record { operands = h.operands.0; few = omega (arith, h.few) }

pub short_others : (e : TExpr) (es : List TExpr) → HaveShortCode (typed_expressions_of (e ∷ es)) → HaveShortCode (typed_expressions_of es)
unfolding ThroughoutAll expressions_in_all count
short_others e es h = record { operands = h.operands.1; few = omega (arith, h.few); arguments = omega (arith, h.arguments) }

-- No more is left than there was, and at the end nothing.
pub fewer_left : (es : List TExpr) (i : ℕ) → expressions_in_all (typed_expressions_of (drop i es)) ≤ expressions_in_all (typed_expressions_of es)
unfolding expressions_in_all
fewer_left es zero = omega arith
fewer_left [] (suc i) = omega arith
fewer_left (e ∷ es) (suc i) = omega (arith, fewer_left es i)

pub none_left : (es : List TExpr) (i : ℕ) → length es ≤ i → drop i es ≡ []
none_left [] zero h = refl
none_left [] (suc i) h = refl
none_left (e ∷ es) zero h = absurd (omega arith)
none_left (e ∷ es) (suc i) h = none_left es i (omega arith)
