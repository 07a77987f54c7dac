-- What judging makes of each form whose parts have types.
use Rattle.std.proofs.Common.{◌≡◌, ℕ, max, Bool, true, false, ◌&&◌, not, if◌then◌else◌, [], Option, Some, None, is_some, refl, sym, ap, subst, arith}
use Rattle.std.specs.Option.{option_map, option_and_then}
use Rattle.pw_tree.specs.declared.ty.Ty.TheVariants.{Void}
use Rattle.pw_tree.specs.declared.operator.Un.{Un}
use Rattle.pw_tree.specs.declared.operator.Bin.{Bin}
use Rattle.pw_tree.specs.Expressions.{Span}
use Rattle.pw_tree.specs.TypedExpressions.{TypedExpression}
use Rattle.pw_tree.specs.TypedExpressions as tree
use Rattle.pw_types.specs.declared.role.Role.{Role}
use Rattle.pw_tree.specs.Types.{is_number, unary_type, binary_type, choice_type}
use Rattle.pw_tree.specs.Held.{held, holds_left, held_both}
use Rattle.pw_types.specs.Typed.{mark, Array, typed_unary, typed_binary, typed_choice, typed_element, with_both, with_three}
use Rattle.pw_tree.specs.TypedExpressions.{type_of}
use Rattle.pw_types.specs.Expressions.{has_type, no_unary, no_binary}
use Rattle.pw_types.specs.Steps.CheckingExpressions.{capped, head, mark_under, of_type, leaf, unary_operation_value, binary_operation_value, choice_value, element_value, output_value}
use Rattle.pw_types.proofs.JudgedPhrases.{full, Judged}
use Rattle.pw_types.proofs.OwnRules.{rules_of, typed_judged, of_type_judged}

-- ---- how many values are held, at most 101

both_capped : (b : Bool) (l r : ℕ) → capped (held_both b (capped l) (capped r)) ≡ capped (held_both b l r)
both_capped true l r = omega arith
both_capped false l r = omega arith

three_capped : (a b c : ℕ) → max (capped a) (max (capped b) (capped c)) ≡ capped (max a (max b c))
three_capped a b c = omega arith

-- ---- forms

pub leaf_judged : (role : Role) (at : Span) (v : TypedExpression) → held v ≡ 0
    → Judged role (rules_of role at.last (Some v) false false) (Some v) [] (leaf (head role at) v)
leaf_judged role at v none = typed_judged role at v false 0 (sym (ap capped none))

pub unary_judged : (role : Role) (at : Span) (op : Un) (t : Option TypedExpression) (v : TypedExpression) → t ≡ Some v
    → Judged role (rules_of role at.last (option_and_then (typed_unary at op) t) (no_unary (unary_type op) t) false)
    (option_and_then (typed_unary at op) t) [] (unary_operation_value (head role at) op (full v))
unfolding held
unary_judged role at op t v is =
    let P : Option TypedExpression → Type 0 = λ o. Judged role (rules_of role at.last (option_and_then (typed_unary at op) o) (no_unary (unary_type op) o) false)
    (option_and_then (typed_unary at op) o) [] (unary_operation_value (head role at) op (full v)) in
    subst P (sym is) (of_type_judged role at (unary_type op (type_of v)) (λ ty. tree.unary (mark ty at) op v) _ (λ ty. refl))

pub binary_judged : (role : Role) (at : Span) (op : Bin) (t u : Option TypedExpression) (l r : TypedExpression) → t ≡ Some l →
    u ≡ Some r
    → Judged role (rules_of role at.last (with_both (typed_binary at op) t u) (no_binary (binary_type op) t u) false)
    (with_both (typed_binary at op) t u) [] (binary_operation_value (head role at) op (full l) (full r))
unfolding held
binary_judged role at op t u l r left right =
    let P : Option TypedExpression → Option TypedExpression → Type 0 = λ o p. Judged role (rules_of role at.last (with_both (typed_binary at op) o p) (no_binary (binary_type op) o p) false)
    (with_both (typed_binary at op) o p) [] (binary_operation_value (head role at) op (full l) (full r)) in
    let holds : capped (held_both (holds_left op) (capped (held l)) (capped (held r))) ≡ capped (held_both (holds_left op) (held l) (held r)) =
    both_capped (holds_left op) (held l) (held r) in
    let both = of_type_judged role at (binary_type op (type_of l) (type_of r)) (λ o. tree.binary (mark o.ty at) op o.unsigned l r)
    _ (λ o. ap (λ n. record { tree = tree.binary (mark o.ty at) op o.unsigned l r; held = n }) holds) in
    subst (λ o. P o u) (sym left) (subst (λ p. P (Some l) p) (sym right) both)

pub choice_judged : (role : Role) (at : Span) (s t u : Option TypedExpression) (c a b : TypedExpression) → s ≡ Some c →
    t ≡ Some a → u ≡ Some b
    → Judged role (rules_of role at.last (with_three (typed_choice at) s t u) (is_some s && no_binary choice_type t u) false)
    (with_three (typed_choice at) s t u) [] (choice_value (head role at) (full c) (full a) (full b))
unfolding held
choice_judged role at s t u c a b test first second =
    let P : Option TypedExpression → Option TypedExpression → Option TypedExpression → Type 0 = λ m o p. Judged role (rules_of role at.last (with_three (typed_choice at) m o p) (is_some m && no_binary choice_type o p) false)
    (with_three (typed_choice at) m o p) [] (choice_value (head role at) (full c) (full a) (full b)) in
    let holds : max (capped (held c)) (max (capped (held a)) (capped (held b))) ≡ capped (max (held c) (max (held a) (held b))) =
    three_capped (held c) (held a) (held b) in
    let three = of_type_judged role at (choice_type (type_of a) (type_of b)) (λ ty. tree.conditional (mark ty at) c a b)
    _ (λ ty. ap (λ n. record { tree = tree.conditional (mark ty at) c a b; held = n }) holds) in
    subst (λ m. P m t u) (sym test) (subst (λ o. P (Some c) o u) (sym first) (subst (λ p. P (Some c) (Some a) p) (sym second) three))

by_number : (role : Role) (at : Span) (a : Array) (i : TypedExpression) (b : Bool)
    → Judged role (rules_of role at.last (if b then Some (tree.element (mark a.ty at) a.reference a.size i) else None) (not b) false)
    (if b then Some (tree.element (mark a.ty at) a.reference a.size i) else None) []
    (of_type (head role at) (if b then Some a.ty else None) (λ ty. record { tree = tree.element (mark_under (head role at) ty) a.reference a.size i; held = capped (held i) }))
unfolding held
by_number role at a i true = of_type_judged role at (Some a.ty) (λ ty. tree.element (mark ty at) a.reference a.size i) _ (λ ty. refl)
by_number role at a i false = of_type_judged role at None (λ ty. tree.element (mark ty at) a.reference a.size i) _ (λ ty. refl)

pub element_judged :
    (role : Role) (at : Span) (o : Option Array) (t : Option TypedExpression) (a : Array) (i : TypedExpression) → o ≡ Some a →
    t ≡ Some i
    → Judged role (rules_of role at.last (with_both (typed_element at) o t) (is_some o && has_type (λ u. not (is_number u)) t) false)
    (with_both (typed_element at) o t) [] (element_value (head role at) a (full i))
unfolding held
element_judged role at o t a i array index =
    let P : Option Array → Option TypedExpression → Type 0 = λ p u. Judged role (rules_of role at.last (with_both (typed_element at) p u) (is_some p && has_type (λ ty. not (is_number ty)) u) false)
    (with_both (typed_element at) p u) [] (element_value (head role at) a (full i)) in
    subst (λ p. P p t) (sym array) (subst (λ u. P (Some a) u) (sym index) (by_number role at a i (is_number (type_of i))))

pub output_judged : (role : Role) (at : Span) (t : Option TypedExpression) (v : TypedExpression) → t ≡ Some v
    → Judged role (rules_of role at.last (option_map (λ e. tree.output (mark Void at) e) t) false false)
    (option_map (λ e. tree.output (mark Void at) e) t) [] (output_value (head role at) (full v))
unfolding held
output_judged role at t v is =
    let P : Option TypedExpression → Type 0 = λ o. Judged role (rules_of role at.last (option_map (λ e. tree.output (mark Void at) e) o) false false)
    (option_map (λ e. tree.output (mark Void at) e) o) [] (output_value (head role at) (full v)) in
    subst P (sym is) (typed_judged role at (tree.output (mark Void at) v) false _ refl)
