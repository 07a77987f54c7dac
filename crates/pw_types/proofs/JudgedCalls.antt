-- What judging makes of a call whose callee is judged.
use Rattle.std.proofs.Common.{◌≡◌, ℕ, suc, ◌+◌, max, Bool, false, ◌&&◌, not, List, [], ◌∷◌, ◌++◌, length, Option, Some, None, is_some, refl, sym, ap, subst, nat_eq, arith}
use Rattle.std.specs.Option.{option_map, option_and_then, option_map_or}
use Rattle.pw_tree.specs.declared.ty.Ty.{Ty}
use Rattle.pw_tree.specs.Expressions.{Span, Expression, Expressions}
use Rattle.pw_tree.specs.Expressions as phrase
use Rattle.pw_tree.specs.TypedExpressions.{TypedExpression, TypedExpressions, typed_expressions}
use Rattle.pw_tree.specs.TypedExpressions as tree
use Rattle.pw_types.specs.declared.role.Role.{Role}
use Rattle.pw_types.specs.Scopes.{Scope}
use Rattle.pw_tree.specs.Held.{held, held_arguments, count}
use Rattle.pw_types.specs.Typed.{with_both, both_trees, typed, typed_all, parameters_of, called, Callee as Called}
use Rattle.pw_types.specs.Expressions.{other_parameters, callee_in, how_many, own}
use Rattle.pw_types.specs.Steps.ExpressionFaults.{faults_of_arguments}
use Rattle.pw_types.specs.Steps.Judging.{Judge}
use Rattle.pw_types.specs.Steps.CheckingExpressions.{Valued, capped, head, Aim, named, through, Taken, taking, call_tree, call_held, call_value, others_wanted}
use Rattle.pw_types.proofs.JudgedPhrases.{full, Judged}
use Rattle.pw_types.proofs.OwnRules.{rules_of, own_rules, typed_judged}

-- ---- arguments that were judged, and others after them

abbrev pub appended : List TypedExpression → TypedExpressions → TypedExpressions
appended [] es = es
appended (t ∷ ts) es = tree.cons t (appended ts es)

appended_none : (ts : List TypedExpression) → appended ts tree.nil ≡ typed_expressions ts
appended_none [] = refl
appended_none (t ∷ ts) = ap (λ es. tree.cons t es) (appended_none ts)

appended_one : (ts : List TypedExpression) (t : TypedExpression) (es : TypedExpressions) →
    appended (ts ++ t ∷ []) es ≡ appended ts (tree.cons t es)
appended_one [] t es = refl
appended_one (s ∷ ts) t es = ap (λ l. tree.cons s l) (appended_one ts t es)

-- ---- how many values they hold

count_trees : (ts : List TypedExpression) → count (typed_expressions ts) ≡ length ts
unfolding count
count_trees [] = refl
count_trees (t ∷ ts) = ap suc (count_trees ts)

held_more : (n : ℕ) (ts : List TypedExpression) (t : TypedExpression)
    → held_arguments n (typed_expressions (ts ++ t ∷ [])) ≡ max (held_arguments n (typed_expressions ts)) (n + length ts + max (held t) 1)
unfolding held_arguments
held_more n [] t = omega arith
held_more n (s ∷ ts) t =
    let e = held_more (suc n) ts t in
    omega (arith, e)

-- what arguments that were judged are with what they hold
abbrev pub taken : List TypedExpression → Taken
taken ts = record { trees = ts; held = capped (held_arguments 0 (typed_expressions ts)) }

abbrev pub with_held : List TypedExpression → ℕ → Taken
with_held ts n = record { trees = ts; held = n }

pub taken_more : (ts : List TypedExpression) (t : TypedExpression) → taking (taken ts) (full t) ≡ taken (ts ++ t ∷ [])
taken_more ts t =
    let more = held_more 0 ts t in
    let holds : max (capped (held_arguments 0 (typed_expressions ts))) (capped (length ts + max (capped (held t)) 1)) ≡ capped (held_arguments 0 (typed_expressions (ts ++ t ∷ []))) =
    omega (arith, more) in
    ap (with_held (ts ++ t ∷ [])) holds

-- ---- the call after its last argument

call_holds : (h : Role) (at : Span) (aim : Aim) (ts : List TypedExpression) → ((v : Valued) → aim ≡ through v → v ≡ full v.tree)
    → call_held aim (taken ts) ≡ capped (held (call_tree (head h at) aim (typed_expressions ts)))
unfolding held
call_holds role at (named f ty) ts is = refl
call_holds role at (through v) ts is =
    let full_held : v.held ≡ capped (held v.tree) = ap (λ w. w.held) (is v refl) in
    let many = count_trees ts in
    omega (arith, full_held, many)

-- the typed tree of a call, where its other arguments have these
abbrev pub call_of : Role → Span → Aim → List TypedExpression → Option TypedExpressions → Option TypedExpression
call_of role at aim ts o = option_map (λ es. call_tree (head role at) aim (appended ts es)) o

pub call_judged : (role : Role) (at : Span) (aim : Aim) (other_count : Bool) (ts : List TypedExpression) →
    ((v : Valued) → aim ≡ through v → v ≡ full v.tree)
    → Judged role (rules_of role at.last (call_of role at aim ts (Some tree.nil)) false other_count) (call_of role at aim ts (Some tree.nil)) []
    (call_value (record { head = head role at; aim = aim; other_count = other_count }) (taken ts))
call_judged role at aim other_count ts is =
    let P : TypedExpressions → Type 0 = λ es. Judged role (rules_of role at.last (Some (call_tree (head role at) aim es)) false other_count)
    (Some (call_tree (head role at) aim es)) [] (call_value (record { head = head role at; aim = aim; other_count = other_count }) (taken ts)) in
    subst P (sym (appended_none ts))
    (typed_judged role at (call_tree (head role at) aim (typed_expressions ts)) other_count (call_held aim (taken ts)) (call_holds role at aim ts is))

-- ---- its arguments

pub call_of_more : (role : Role) (at : Span) (aim : Aim) (ts : List TypedExpression) (t : TypedExpression) (o : Option TypedExpressions)
    → call_of role at aim (ts ++ t ∷ []) o ≡ call_of role at aim ts (with_both both_trees (Some t) o)
call_of_more role at aim ts t None = refl
call_of_more role at aim ts t (Some es) = ap (λ l. Some (call_tree (head role at) aim l)) (appended_one ts t es)

pub others_same : (params : List Ty) → other_parameters (Some params) ≡ Some (others_wanted params)
others_same [] = refl
others_same (ty ∷ tys) = refl

-- ---- the whole call

mapped : (g : TypedExpressions → TypedExpression) (f : TypedExpressions → Option TypedExpression) →
    ((ts : TypedExpressions) → f ts ≡ Some (g ts)) → (o : Option TypedExpressions) → option_map g o ≡ option_and_then f o
mapped g f is None = refl
mapped g f is (Some es) = sym (is es)

abbrev pub is_other_count : List Ty → Expressions → Bool
is_other_count params es = not (nat_eq (length params) (how_many es))

abbrev Whole : Scope → Role → Span → Expressions → List ℕ → Judge Valued → Option (List Ty) → Option TypedExpression → Bool →
    Type 0
Whole scope role at es us p params t other_count =
    Judged role (faults_of_arguments scope params es ++ rules_of role at.last t false other_count) t us p

-- by what is called
by_callee : {us : List ℕ} {p : Judge Valued} (scope : Scope) (role : Role) (at : Span) (es : Expressions) (aim : Aim) (c : Called) (params : List Ty)
    → parameters_of c ≡ Some params → ((ts : TypedExpressions) → called at c ts ≡ Some (call_tree (head role at) aim ts))
    → Whole scope role at es us p (Some params) (call_of role at aim [] (typed_all scope es)) (is_some (typed_all scope es) && is_other_count params es)
    → Whole scope role at es us p (parameters_of c) (option_and_then (called at c) (typed_all scope es)) (is_some (typed_all scope es) && option_map_or (λ l. is_other_count l es) (parameters_of c) false)
by_callee {us} {p} scope role at es aim c params takes makes h =
    let tree : call_of role at aim [] (typed_all scope es) ≡ option_and_then (called at c) (typed_all scope es) =
    mapped (call_tree (head role at) aim) (called at c) makes (typed_all scope es) in
    subst (λ o. Whole scope role at es us p o (option_and_then (called at c) (typed_all scope es)) (is_some (typed_all scope es) && option_map_or (λ l. is_other_count l es) o false)) (sym takes)
    (subst (λ t. Whole scope role at es us p (Some params) t (is_some (typed_all scope es) && is_other_count params es)) tree h)

pub whole_call : {us : List ℕ} {p : Judge Valued} (scope : Scope) (role : Role) (at : Span) (f : Expression)
    (es : Expressions) (aim : Aim) (c : Called) (params : List Ty)
    → callee_in scope f ≡ c → parameters_of c ≡ Some params → ((ts : TypedExpressions) → called at c ts ≡ Some (call_tree (head role at) aim ts))
    → Whole scope role at es us p (Some params) (call_of role at aim [] (typed_all scope es)) (is_some (typed_all scope es) && is_other_count params es)
    → Judged role (faults_of_arguments scope (parameters_of (callee_in scope f)) es ++ own scope role (phrase.call at f es)) (typed scope (phrase.call at f es)) us p
unfolding typed
whole_call {us} {p} scope role at f es aim c params is takes makes h =
    let W : Called → Type 0 = λ d. Whole scope role at es us p (parameters_of d) (option_and_then (called at d) (typed_all scope es)) (is_some (typed_all scope es) && option_map_or (λ l. is_other_count l es) (parameters_of d) false) in
    let by : W (callee_in scope f) = subst W (sym is) (by_callee scope role at es aim c params takes makes h) in
    subst (λ fs. Judged role (faults_of_arguments scope (parameters_of (callee_in scope f)) es ++ fs) (typed scope (phrase.call at f es)) us p)
    (own_rules scope role (phrase.call at f es)) by
