-- The own faults of an expression that is no name, where its parts have types.
use Rattle.std.proofs.Common.{◌≡◌, ℕ, Bool, true, false, ◌&&◌, ◌||◌, not, List, [], ◌++◌, Option, Some, None, is_some, is_none, refl, sym, subst}
use Rattle.std.proofs.lemmas.List.{append-nil}
use Rattle.std.proofs.Math.Bool.{or-false}
use Rattle.std.specs.Option.{option_map}
use Rattle.pw_tree.specs.declared.ty.Ty.{Ty}
use Rattle.pw_tree.specs.Expressions.{Span, Expression}
use Rattle.pw_tree.specs.TypedExpressions.{TypedExpression}
use Rattle.pw_types.specs.declared.rule.Rule.{Rule}
use Rattle.pw_types.specs.declared.rule.Rule.TheVariants as rules
use Rattle.pw_types.specs.declared.expression_step.Head.{Head}
use Rattle.pw_types.specs.declared.role.Role.{Role}
use Rattle.pw_types.specs.declared.role.Role.TheVariants.{Statement, Value, Callee, Base, Argument, Written, Assigned}
use Rattle.pw_types.specs.declared.fault.Fault.{Fault}
use Rattle.pw_tree.specs.Types.{is_void, is_pointer, converts}
use Rattle.pw_tree.specs.Held.{held}
use Rattle.pw_types.specs.Scopes.{Scope}
use Rattle.pw_types.specs.Faults.{broken, broken_by, first_of}
use Rattle.pw_types.specs.Typed.{Array, array_of, Designated, function_of, typed}
use Rattle.pw_tree.specs.TypedExpressions.{type_of}
use Rattle.pw_types.specs.Expressions.{is_base, is_callee, needs_value, has_type, end_of, is_word, word_of, is_unknown, has_other_operands, has_other_count, own}
use Rattle.pw_types.specs.Steps.Judging.{Judge, pure}
use Rattle.pw_types.specs.Steps.CheckingExpressions.{Valued, capped, head, fault_under, is_other_argument, is_other_value, rule_where, finished_by, finished, of_type}
use Rattle.pw_types.proofs.JudgedPhrases.{full, Judged, faulty, fits, rule_then}

-- ---- the list of own faults

abbrev does_not_convert : Bool → Option TypedExpression → Option Ty → Bool
does_not_convert word t None = false
does_not_convert word t (Some to) = (is_some t || word) && not (has_type (λ u. converts u to) t)

abbrev has_other_argument : Role → Bool → Option TypedExpression → Bool
has_other_argument (Argument want) word t = does_not_convert word t want
has_other_argument Written word t = has_type is_pointer t
has_other_argument Statement word t = false
has_other_argument Value word t = false
has_other_argument Callee word t = false
has_other_argument Base word t = false
has_other_argument (Assigned want) word t = false

abbrev does_not_fit : Role → Bool → Option TypedExpression → Bool
does_not_fit (Assigned want) word t = does_not_convert word t want
does_not_fit Statement word t = false
does_not_fit Value word t = false
does_not_fit Callee word t = false
does_not_fit Base word t = false
does_not_fit (Argument want) word t = false
does_not_fit Written word t = false

-- the own faults of an expression, by its name, if it is one, by what the name means, and by its typed tree
abbrev pub rules_by : Role → ℕ → List ℕ → Bool → Bool → Option Designated → Option Array → Option TypedExpression → Bool →
    Bool → List Fault
rules_by role at name word unknown function array t other_operands other_count =
    broken_by rules.Unknown at name unknown
    ++ (broken rules.NotValue at ((needs_value role && has_type is_void t) || ((not (is_base role) && is_some function) && is_none t))
    ++ (broken rules.Operands at other_operands
    ++ (broken rules.ArgCount at other_count
    ++ (broken rules.ArgType at (has_other_argument role word t)
    ++ (broken rules.NotCallable at ((is_callee role && (is_some t || word)) && not (has_type is_pointer t))
    ++ (broken rules.NotArray at (is_base role && ((is_some t || word) && is_none array))
    ++ (broken rules.NeedsIndex at (not (is_base role) && is_some array)
    ++ broken rules.AssignType at (does_not_fit role word t))))))))

pub own_rules : (scope : Scope) (role : Role) (e : Expression)
    → rules_by role (end_of e) (word_of e) (is_word e) (is_unknown scope e) (function_of scope e) (array_of scope e) (typed scope e)
    (has_other_operands scope e) (has_other_count scope e) ≡ own scope role e
unfolding own
own_rules scope Statement e = refl
own_rules scope Value e = refl
own_rules scope Callee e = refl
own_rules scope Base e = refl
own_rules scope (Argument None) e = refl
own_rules scope (Argument (Some to)) e = refl
own_rules scope Written e = refl
own_rules scope (Assigned None) e = refl
own_rules scope (Assigned (Some to)) e = refl

pub by_rules : {t : Option TypedExpression} {us : List ℕ} {p : Judge Valued} (scope : Scope) (role : Role) (e : Expression)
    → Judged role (rules_by role (end_of e) (word_of e) (is_word e) (is_unknown scope e) (function_of scope e) (array_of scope e) (typed scope e)
    (has_other_operands scope e) (has_other_count scope e)) t us p
    → Judged role (own scope role e) t us p
by_rules {t} {us} {p} scope role e h = subst (λ fs. Judged role fs t us p) (own_rules scope role e) h

-- those of an expression that is no name
abbrev pub rules_of : Role → ℕ → Option TypedExpression → Bool → Bool → List Fault
rules_of role at t other_operands other_count = rules_by role at [] false false None None t other_operands other_count

-- those of one with a type
abbrev rules_of_type : Role → ℕ → Ty → Bool → List Fault
rules_of_type role at ty other_count =
    broken rules.NotValue at (needs_value role && is_void ty)
    ++ (broken rules.ArgCount at other_count
    ++ (broken rules.ArgType at (is_other_argument role ty)
    ++ (broken rules.NotCallable at (is_callee role && not (is_pointer ty))
    ++ (broken rules.NotArray at (is_base role)
    ++ (broken rules.AssignType at (is_other_value role ty) ++ [])))))

same_rules : (role : Role) (at : ℕ) (v : TypedExpression) (other_count : Bool)
    → rules_of_type role at (type_of v) other_count ≡ rules_of role at (Some v) false other_count
same_rules Statement at v other_count = simp append-nil
same_rules Value at v other_count = simp (or-false, append-nil)
same_rules Callee at v other_count = simp (or-false, append-nil)
same_rules Base at v other_count = simp append-nil
same_rules (Argument None) at v other_count = simp (or-false, append-nil)
same_rules (Argument (Some to)) at v other_count = simp (or-false, append-nil)
same_rules Written at v other_count = simp (or-false, append-nil)
same_rules (Assigned None) at v other_count = simp (or-false, append-nil)
same_rules (Assigned (Some to)) at v other_count = simp (or-false, append-nil)

-- ---- what judging makes of it

finished_judged : (role : Role) (at : Span) (v : TypedExpression) (other_count : Bool)
    → Judged role (rules_of_type role at.last (type_of v) other_count) (Some v) [] (finished_by (head role at) other_count (full v))
finished_judged role at v other_count =
    let h : Head = head role at in
    let ty : Ty = type_of v in
    let p : Judge Valued = pure (full v) in
    let f6 : List Fault = broken rules.AssignType at.last (is_other_value role ty) ++ [] in
    let n6 : Option Rule = rule_where rules.AssignType (is_other_value role ty) None in
    let f5 : List Fault = broken rules.NotArray at.last (is_base role) ++ f6 in
    let n5 : Option Rule = rule_where rules.NotArray (is_base role) n6 in
    let f4 : List Fault = broken rules.NotCallable at.last (is_callee role && not (is_pointer ty)) ++ f5 in
    let n4 : Option Rule = rule_where rules.NotCallable (is_callee role && not (is_pointer ty)) n5 in
    let f3 : List Fault = broken rules.ArgType at.last (is_other_argument role ty) ++ f4 in
    let n3 : Option Rule = rule_where rules.ArgType (is_other_argument role ty) n4 in
    let f2 : List Fault = broken rules.ArgCount at.last other_count ++ f3 in
    let n2 : Option Rule = rule_where rules.ArgCount other_count n3 in
    rule_then {fs = f2} h rules.NotValue (needs_value role && is_void ty) n2 p (λ _.
    rule_then {fs = f3} h rules.ArgCount other_count n3 p (λ _.
    rule_then {fs = f4} h rules.ArgType (is_other_argument role ty) n4 p (λ _.
    rule_then {fs = f5} h rules.NotCallable (is_callee role && not (is_pointer ty)) n5 p (λ pointer.
    rule_then {fs = f6} h rules.NotArray (is_base role) n6 p (λ no_base.
    rule_then {fs = []} h rules.AssignType (is_other_value role ty) None p (λ _. fits role v (record { pointer = pointer; no_base = no_base })))))))

-- an expression with a type
pub typed_judged : (role : Role) (at : Span) (v : TypedExpression) (other_count : Bool) (n : ℕ) → n ≡ capped (held v)
    → Judged role (rules_of role at.last (Some v) false other_count) (Some v) [] (finished_by (head role at) other_count (record { tree = v; held = n }))
typed_judged role at v other_count n holds =
    let P : List Fault → Type 0 = λ fs. Judged role fs (Some v) [] (finished_by (head role at) other_count (full v)) in
    let Q : ℕ → Type 0 = λ m. Judged role (rules_of role at.last (Some v) false other_count) (Some v) [] (finished_by (head role at) other_count (record { tree = v; held = m })) in
    subst Q (sym holds) (subst P (same_rules role at.last v other_count) (finished_judged role at v other_count))

-- one whose operands have other types
other_operands_first : (role : Role) (at : Span) (other_count : Bool)
    → first_of (rules_of role at.last None true other_count) ≡ Some (fault_under (head role at) rules.Operands)
other_operands_first Statement at other_count = refl
other_operands_first Value at other_count = refl
other_operands_first Callee at other_count = refl
other_operands_first Base at other_count = refl
other_operands_first (Argument want) at other_count = refl
other_operands_first Written at other_count = refl
other_operands_first (Assigned want) at other_count = refl

-- an operator, by the type that its operands give it
pub of_type_judged : {A : Type 0} (role : Role) (at : Span) (o : Option A) (tree : A → TypedExpression) (v : A → Valued)
    → ((a : A) → v a ≡ full (tree a))
    → Judged role (rules_of role at.last (option_map tree o) (is_none o) false) (option_map tree o) [] (of_type (head role at) o v)
of_type_judged role at None tree v is = faulty (fault_under (head role at) rules.Operands) (other_operands_first role at false) (λ used. refl)
of_type_judged role at (Some a) tree v is =
    let P : Valued → Type 0 = λ w. Judged role (rules_of role at.last (Some (tree a)) false false) (Some (tree a)) [] (finished (head role at) w) in
    subst P (sym (is a)) (typed_judged role at (tree a) false _ refl)
