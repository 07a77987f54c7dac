-- Judging an expression from left to right gives its typed tree, or the first of its faults.
use Rattle.std.proofs.Common.{◌≡◌, ℕ, Bool, true, false, ◌&&◌, not, List, [], ◌∷◌, ◌++◌, replicate, Option, Some, None, is_some, refl, sym, ◌∙◌, ap, subst, append_assoc}
use Rattle.pw_tree.specs.declared.ty.Ty.{Ty}
use Rattle.pw_tree.specs.declared.ty.Ty.TheVariants.{Void, Long, Ulong, Fn}
use Rattle.pw_tree.specs.Expressions.{Span, Expression, Expressions, constant, word, unary, binary, conditional, call, index, input, output, nil, cons}
use Rattle.pw_tree.specs.TypedExpressions.{TypedExpression, TypedExpressions}
use Rattle.pw_tree.specs.TypedExpressions as tree
use Rattle.pw_types.specs.declared.rule.Rule.TheVariants as rules
use Rattle.pw_types.specs.declared.role.Role.{Role}
use Rattle.pw_types.specs.declared.role.Role.TheVariants.{Value, Callee, Base, Written}
use Rattle.pw_types.specs.declared.fault.Fault.{Fault}
use Rattle.pw_tree.specs.Types.{is_pointer}
use Rattle.pw_types.specs.Scopes.{Scope, name_meaning}
use Rattle.pw_types.specs.Typed as called
use Rattle.pw_types.specs.Typed.{pointer_of_type, pointer_callee, callee_of, parameters_of, with_both, both_trees, mark, Array, array_of, Designated, function_of, constant_type, typed, typed_all}
use Rattle.pw_tree.specs.TypedExpressions.{type_of}
use Rattle.pw_tree.specs.Held.{held}
use Rattle.pw_types.specs.Steps.Uses.{uses, uses_of_all}
use Rattle.pw_types.specs.Expressions.{is_base, own, callee_in}
use Rattle.pw_types.specs.Steps.ExpressionFaults.{faults, faults_of_arguments, unless_direct}
use Rattle.pw_types.specs.Steps.Judging.{Judge, ◌>>=◌, refuse, noting, on_option}
use Rattle.pw_types.specs.Steps.CheckingExpressions.{Valued, Taken, none_taken, pointer_parameters, pointer_call, direct_call, fault_under, head, Aim, named, through, Calling, calling, unary_operation_value, binary_operation_value, choice_value, element_value, output_value, taking, first_wanted, others_wanted, checked, checked_arguments}
use Rattle.pw_types.proofs.JudgedPhrases.{full, Judged, bind, refused_base, noted, no_more}
use Rattle.pw_types.proofs.OwnRules.{rules_of, by_rules}
use Rattle.pw_types.proofs.JudgedForms.{leaf_judged, unary_judged, binary_judged, choice_judged, element_judged, output_judged}
use Rattle.pw_types.proofs.JudgedNames.{name_judged, array_base}
use Rattle.pw_types.proofs.JudgedCalls.{taken, taken_more, call_of, call_of_more, call_judged, others_same, is_other_count, whole_call}

-- in these roles no array's name stands
no_base : {A : Type 0} → (false ≡ true) → A
no_base h = cc

-- ---- elements

index_by : (scope : Scope) (role : Role) (at : Span) (b i : Expression) (o : Option Array) → array_of scope b ≡ o
    → ((array_of scope b ≡ None) → Judged Base (faults scope Base b) (typed scope b) (uses scope b) (checked scope Base b))
    → Judged Value (faults scope Value i) (typed scope i) (uses scope i) (checked scope Value i)
    → Judged role (faults scope Base b ++ (faults scope Value i ++ own scope role (index at b i))) (typed scope (index at b i)) (uses scope b ++ uses scope i)
    (on_option o (checked scope Base b) (λ a. noting (uses scope b) (checked scope Value i >>= element_value (head role at) a)))
unfolding typed
index_by scope role at b i None is base judged =
    refused_base role (faults scope Value i ++ own scope role (index at b i)) (typed scope (index at b i)) (uses scope b ++ uses scope i) (base is)
index_by scope role at b i (Some a) is base judged =
    let e : Expression = index at b i in
    let rest : Judged role (faults scope Value i ++ own scope role e) (typed scope e) (uses scope i) (checked scope Value i >>= element_value (head role at) a) =
    no_more (bind role (own scope role e) (typed scope e) [] (element_value (head role at) a) judged
    (λ v number _. by_rules scope role e (element_judged role at (array_of scope b) (typed scope i) a v is number))) in
    let P : List Fault → Type 0 = λ fs. Judged role (fs ++ (faults scope Value i ++ own scope role e)) (typed scope e) (uses scope b ++ uses scope i)
    (noting (uses scope b) (checked scope Value i >>= element_value (head role at) a)) in
    subst P (sym (array_base scope b a is)) (noted (uses scope b) rest)

-- ---- calls

regrouped :
    {t : Option TypedExpression} {us : List ℕ} {p : Judge Valued} (role : Role) (first rest own : List Fault) {others : List Fault} →
    others ≡ rest
    → Judged role (first ++ (rest ++ own)) t us p → Judged role ((first ++ others) ++ own) t us p
regrouped {t} {us} {p} role first rest own {others} same h =
    subst (λ fs. Judged role fs t us p) (sym (ap (λ l. (first ++ l) ++ own) same ∙ append_assoc first rest own)) h

-- arguments have types where the first has one and the others have
some_both : (t : TypedExpression) (o : Option TypedExpressions) → is_some (with_both both_trees (Some t) o) ≡ is_some o
some_both t None = refl
some_both t (Some es) = refl

-- a call of what is called, where its arguments are judged
abbrev After : Scope → Role → Span → Expressions → Aim → List Ty → Type 0
After scope role at es aim params =
    Judged role (faults_of_arguments scope (Some params) es ++ rules_of role at.last (call_of role at aim [] (typed_all scope es)) false (is_some (typed_all scope es) && is_other_count params es))
    (call_of role at aim [] (typed_all scope es)) (uses_of_all scope es) (checked_arguments scope (calling (head role at) aim params es) none_taken params es)

-- through a pointer
through_by : (scope : Scope) (role : Role) (at : Span) (f : Expression) (es : Expressions) (v : TypedExpression) (ty : Ty) →
    type_of v ≡ ty
    → function_of scope f ≡ None → typed scope f ≡ Some v → ((not (is_pointer ty)) ≡ false)
    → ((aim : Aim) → ((w : Valued) → aim ≡ through w → w ≡ full w.tree) → (params : List Ty) → After scope role at es aim params)
    → Judged role (faults_of_arguments scope (parameters_of (callee_in scope f)) es ++ own scope role (call at f es)) (typed scope (call at f es)) (uses_of_all scope es)
    (on_option (pointer_parameters ty) (refuse (fault_under (head role at) rules.NotCallable))
    (λ k. checked_arguments scope (calling (head role at) (through (full v)) (replicate k Long) es) none_taken (replicate k Long) es))
through_by scope role at f es v (Fn k) is direct value fit arguments =
    let c : callee_in scope f ≡ called.through v k =
    ap (λ o. callee_of o (typed scope f)) direct ∙ ap pointer_callee value ∙ ap (pointer_of_type v) is in
    let aim_is : (w : Valued) → through (full v) ≡ through w → w ≡ full w.tree = λ w same.
    let e : full v ≡ w = cc in sym e ∙ ap (λ (u : Valued). full u.tree) e in
    whole_call scope role at f es (through (full v)) (called.through v k) (replicate k Long) c refl (λ ts. refl)
    (arguments (through (full v)) aim_is (replicate k Long))
through_by scope role at f es v Void is direct value fit arguments = cc
through_by scope role at f es v Long is direct value fit arguments = cc
through_by scope role at f es v Ulong is direct value fit arguments = cc

call_by : (scope : Scope) (role : Role) (at : Span) (f : Expression) (es : Expressions) (o : Option Designated) →
    function_of scope f ≡ o
    → Judged Callee (faults scope Callee f) (typed scope f) (uses scope f) (checked scope Callee f)
    → ((aim : Aim) → ((w : Valued) → aim ≡ through w → w ≡ full w.tree) → (params : List Ty) → After scope role at es aim params)
    → Judged role (unless_direct o (faults scope Callee f) ++ (faults_of_arguments scope (parameters_of (callee_in scope f)) es ++ own scope role (call at f es)))
    (typed scope (call at f es)) (uses scope f ++ uses_of_all scope es)
    (on_option o (checked scope Callee f >>= pointer_call (head role at) es (λ c params. checked_arguments scope c none_taken params es))
    (λ d. noting (uses scope f) (direct_call (head role at) es (λ c params. checked_arguments scope c none_taken params es) d)))
call_by scope role at f es None is judged arguments =
    bind role (faults_of_arguments scope (parameters_of (callee_in scope f)) es ++ own scope role (call at f es)) (typed scope (call at f es)) (uses_of_all scope es)
    (pointer_call (head role at) es (λ c params. checked_arguments scope c none_taken params es)) judged
    (λ v value fit. through_by scope role at f es v (type_of v) refl is value fit.pointer arguments)
call_by scope role at f es (Some d) is judged arguments =
    let aim : Aim = named d.reference d.sig.result in
    noted (uses scope f)
    (whole_call scope role at f es aim (called.direct d) d.sig.params (ap (λ o. callee_of o (typed scope f)) is) refl (λ ts. refl)
    (arguments aim (λ w same. cc) d.sig.params))

-- ---- all forms

mutual
  unfolding faults typed uses checked held

  pub expression_judged : (scope : Scope) (role : Role) (e : Expression) → (is_base role ≡ true → array_of scope e ≡ None)
      → Judged role (faults scope role e) (typed scope e) (uses scope e) (checked scope role e)
  expression_judged scope role (constant at value unsigned) h =
      by_rules scope role (constant at value unsigned) (leaf_judged role at (tree.constant (mark (constant_type unsigned) at) value) refl)
  expression_judged scope role (word at name) h =
      by_rules scope role (word at name) (name_judged scope role at name (name_meaning scope name) h)
  expression_judged scope role (unary at op e) h =
      no_more (bind role (own scope role (unary at op e)) (typed scope (unary at op e)) [] (unary_operation_value (head role at) op) (expression_judged scope Value e no_base)
      (λ v is _. by_rules scope role (unary at op e) (unary_judged role at op (typed scope e) v is)))
  expression_judged scope role (binary at op l r) h =
      bind role (faults scope Value r ++ own scope role (binary at op l r)) (typed scope (binary at op l r)) (uses scope r)
      (λ a. checked scope Value r >>= binary_operation_value (head role at) op a) (expression_judged scope Value l no_base)
      (λ a left _. no_more (bind role (own scope role (binary at op l r)) (typed scope (binary at op l r)) []
      (binary_operation_value (head role at) op (full a)) (expression_judged scope Value r no_base)
      (λ b right _. by_rules scope role (binary at op l r) (binary_judged role at op (typed scope l) (typed scope r) a b left right))))
  expression_judged scope role (conditional at c a b) h =
      let e : Expression = conditional at c a b in
      bind role (faults scope Value a ++ (faults scope Value b ++ own scope role e)) (typed scope e) (uses scope a ++ uses scope b)
      (λ x. checked scope Value a >>= (λ y. checked scope Value b >>= choice_value (head role at) x y)) (expression_judged scope Value c no_base)
      (λ x test _. bind role (faults scope Value b ++ own scope role e) (typed scope e) (uses scope b)
      (λ y. checked scope Value b >>= choice_value (head role at) (full x) y) (expression_judged scope Value a no_base)
      (λ y first _. no_more (bind role (own scope role e) (typed scope e) [] (choice_value (head role at) (full x) (full y)) (expression_judged scope Value b no_base)
      (λ z second _. by_rules scope role e (choice_judged role at (typed scope c) (typed scope a) (typed scope b) x y z test first second)))))
  expression_judged scope role (call at f es) h =
      call_by scope role at f es (function_of scope f) refl (expression_judged scope Callee f no_base)
      (λ aim is params. arguments_judged scope role at aim (is_other_count params es) is params [] es)
  expression_judged scope role (index at b i) h =
      index_by scope role at b i (array_of scope b) refl (λ none. expression_judged scope Base b (λ _. none)) (expression_judged scope Value i no_base)
  expression_judged scope role (input at) h =
      by_rules scope role (input at) (leaf_judged role at (tree.input (mark Long at)) refl)
  expression_judged scope role (output at e) h =
      no_more (bind role (own scope role (output at e)) (typed scope (output at e)) [] (output_value (head role at)) (expression_judged scope Written e no_base)
      (λ v is _. by_rules scope role (output at e) (output_judged role at (typed scope e) v is)))

  -- arguments, after those that were judged, and the call
  arguments_judged : (scope : Scope) (role : Role) (at : Span) (aim : Aim) (other_count : Bool)
      → ((v : Valued) → aim ≡ through v → v ≡ full v.tree) → (params : List Ty) (ts : List TypedExpression) (es : Expressions)
      → Judged role (faults_of_arguments scope (Some params) es ++ rules_of role at.last (call_of role at aim ts (typed_all scope es)) false (is_some (typed_all scope es) && other_count))
      (call_of role at aim ts (typed_all scope es)) (uses_of_all scope es)
      (checked_arguments scope (record { head = head role at; aim = aim; other_count = other_count }) (taken ts) params es)
  arguments_judged scope role at aim other_count is params ts nil = call_judged role at aim other_count ts is
  arguments_judged scope role at aim other_count is params ts (cons e es) =
      let c : Calling = record { head = head role at; aim = aim; other_count = other_count } in
      let rest : List Ty = others_wanted params in
      let whole : Option TypedExpression → Option TypedExpression = λ t. call_of role at aim ts (with_both both_trees t (typed_all scope es)) in
      let counted : Option TypedExpression → Bool = λ t. is_some (with_both both_trees t (typed_all scope es)) && other_count in
      let own : List Fault = rules_of role at.last (whole (typed scope e)) false (counted (typed scope e)) in
      let first = expression_judged scope (first_wanted params) e no_base in
      regrouped role (faults scope (first_wanted params) e) (faults_of_arguments scope (Some rest) es) own
      (ap (λ o. faults_of_arguments scope o es) (others_same params))
      (bind role (faults_of_arguments scope (Some rest) es ++ own) (whole (typed scope e)) (uses_of_all scope es)
      (λ v. checked_arguments scope c (taking (taken ts) v) rest es) first
      (λ v is' _.
      let P : Option TypedExpression → Bool → Taken → Type 0 = λ t b k. Judged role (faults_of_arguments scope (Some rest) es ++ rules_of role at.last t false b) t
      (uses_of_all scope es) (checked_arguments scope c k rest es) in
      let same : (is_some (typed_all scope es) && other_count) ≡ counted (typed scope e) =
      ap (λ b. b && other_count) (sym (some_both v (typed_all scope es))) ∙ ap counted (sym is') in
      subst (λ k. P (whole (typed scope e)) (counted (typed scope e)) k) (sym (taken_more ts v))
      (subst (λ b. P (whole (typed scope e)) b (taken (ts ++ v ∷ []))) same
      (subst (λ t. P t (is_some (typed_all scope es) && other_count) (taken (ts ++ v ∷ []))) (call_of_more role at aim ts v (typed_all scope es) ∙ ap whole (sym is'))
      (arguments_judged scope role at aim other_count is rest (ts ++ v ∷ []) es)))))
