-- What judging a phrase says of its faults and its typed tree, and how that of a whole comes from that of its parts.
use Rattle.std.proofs.Common.{◌≡◌, ℕ, Bool, true, false, ◌&&◌, not, List, [], ◌∷◌, ◌++◌, Option, Some, Ok, Err, refl, sym, ◌∙◌, ap, subst, append_assoc}
use Rattle.std.proofs.lemmas.List.{append-nil}
use Rattle.pw_tree.specs.TypedExpressions.{TypedExpression}
use Rattle.pw_types.specs.declared.rule.Rule.{Rule}
use Rattle.pw_types.specs.declared.role.Role.{Role}
use Rattle.pw_types.specs.declared.role.Role.TheVariants.{Base}
use Rattle.pw_types.specs.declared.fault.Fault.{Fault}
use Rattle.pw_types.specs.declared.expression_step.Head.{Head}
use Rattle.pw_tree.specs.Types.{is_pointer}
use Rattle.pw_tree.specs.Held.{held}
use Rattle.pw_types.specs.Faults.{broken, first_of}
use Rattle.pw_tree.specs.TypedExpressions.{type_of}
use Rattle.pw_types.specs.Expressions.{is_callee, is_base}
use Rattle.pw_types.specs.Steps.Judging.{Judge, judge_then, ◌>>=◌, pure, refuse, noting, on_option}
use Rattle.pw_types.specs.Steps.CheckingExpressions.{Valued, capped, fault_under, rule_where}

-- a typed tree with what it holds
abbrev pub full : TypedExpression → Valued
full t = record { tree = t; held = capped (held t) }

-- what its role leaves of a typed tree: a callee is a pointer, and a base is none at all
pub record IsFit (role : Role) (v : TypedExpression) : Type 0 where
  pub pointer : (is_callee role && not (is_pointer (type_of v))) ≡ false
  pub no_base : is_base role ≡ false

-- Judging gives the typed tree where there is no fault, and else the first fault.
pub data Judged (role : Role) (faults : List Fault) (t : Option TypedExpression) (uses : List ℕ) (p : Judge Valued) : Type 0 where
  sound : (v : TypedExpression) → faults ≡ [] → t ≡ Some v → IsFit role v
      → ((used : List ℕ) → p used ≡ Ok (full v, used ++ uses)) → Judged role faults t uses p
  faulty : (f : Fault) → first_of faults ≡ Some f → ((used : List ℕ) → p used ≡ Err f) → Judged role faults t uses p

-- ---- parts

first_append : (fs gs : List Fault) (f : Fault) → first_of fs ≡ Some f → first_of (fs ++ gs) ≡ Some f
first_append [] gs f h = cc
first_append (g ∷ fs) gs f h = h

none_append : (fs gs : List Fault) → fs ≡ [] → fs ++ gs ≡ gs
none_append fs gs h = ap (λ l. l ++ gs) h

-- after a part
after : {fs : List Fault} {us : List ℕ} {p : Judge Valued}
    (role : Role) (gs : List Fault) (whole : Option TypedExpression) (vs : List ℕ) (k : Valued → Judge Valued) (v : TypedExpression)
    → fs ≡ [] → ((used : List ℕ) → p used ≡ Ok (full v, used ++ us)) → Judged role gs whole vs (k (full v))
    → Judged role (fs ++ gs) whole (us ++ vs) (p >>= k)
after {fs} {us} {p} role gs whole vs k v none is (sound w gone tree fit that) =
    sound w (none_append fs gs none ∙ gone) tree fit
    (λ used. ap (λ o. judge_then o k) (is used) ∙ that (used ++ us) ∙ ap (λ l. Ok (full w, l)) (append_assoc used us vs))
after {fs} {us} {p} role gs whole vs k v none is (faulty f first that) =
    faulty f (ap first_of (none_append fs gs none) ∙ first) (λ used. ap (λ o. judge_then o k) (is used) ∙ that (used ++ us))

pub bind : {r : Role} {fs : List Fault} {t : Option TypedExpression} {us : List ℕ} {p : Judge Valued}
    (role : Role) (gs : List Fault) (whole : Option TypedExpression) (vs : List ℕ) (k : Valued → Judge Valued)
    → Judged r fs t us p
    → ((v : TypedExpression) → t ≡ Some v → IsFit r v → Judged role gs whole vs (k (full v)))
    → Judged role (fs ++ gs) whole (us ++ vs) (p >>= k)
bind {r} {fs} {t} {us} {p} role gs whole vs k (sound v none tree fit is) next =
    after role gs whole vs k v none is (next v tree fit)
bind {r} {fs} {t} {us} {p} role gs whole vs k (faulty f first is) next =
    faulty f (first_append fs gs f first) (λ used. ap (λ o. judge_then o k) (is used))

-- a base that is no array's name is refused, and what it is the base of
pub refused_base : {fs : List Fault} {t : Option TypedExpression} {us : List ℕ} {p : Judge Valued}
    (role : Role) (gs : List Fault) (whole : Option TypedExpression) (vs : List ℕ) → Judged Base fs t us p → Judged role (fs ++ gs) whole vs p
refused_base role gs whole vs (sound v none tree fit is) = let e : true ≡ false = fit.no_base in cc
refused_base {fs} role gs whole vs (faulty f first is) = faulty f (first_append fs gs f first) is

-- names are used first
pub noted : {role : Role} {fs : List Fault} {t : Option TypedExpression} {us : List ℕ} {p : Judge Valued}
    (numbers : List ℕ) → Judged role fs t us p → Judged role fs t (numbers ++ us) (noting numbers p)
noted {us = us} numbers (sound v none tree fit is) =
    sound v none tree fit (λ used. is (used ++ numbers) ∙ ap (λ l. Ok (full v, l)) (append_assoc used numbers us))
noted numbers (faulty f first is) = faulty f first (λ used. is (used ++ numbers))

-- nothing else is used
pub no_more : {role : Role} {fs : List Fault} {t : Option TypedExpression} {us : List ℕ} {p : Judge Valued}
    → Judged role fs t (us ++ []) p → Judged role fs t us p
no_more {role} {fs} {t} {us} {p} h = subst (λ l. Judged role fs t l p) (append-nil us) h

-- ---- own rules

-- a value that breaks none
pub fits : (role : Role) (v : TypedExpression) → IsFit role v
    → Judged role [] (Some v) [] (pure (full v))
fits role v fit = sound v refl refl fit (λ used. ap (λ l. Ok (full v, l)) (sym (append-nil used)))

pub refused : (role : Role) (f : Fault) (fs : List Fault) (t : Option TypedExpression) (us : List ℕ) →
    Judged role (f ∷ fs) t us (refuse f)
refused role f fs t us = faulty f refl (λ used. refl)

-- a rule, and those after it
pub rule_then : {role : Role} {fs : List Fault} {t : Option TypedExpression} {us : List ℕ}
    (h : Head) (rule : Rule) (b : Bool) (next : Option Rule) (p : Judge Valued)
    → ((b ≡ false) → Judged role fs t us (on_option next p (λ r. refuse (fault_under h r))))
    → Judged role (broken rule h.last b ++ fs) t us (on_option (rule_where rule b next) p (λ r. refuse (fault_under h r)))
rule_then {role} {fs} {t} {us} h rule true next p judged = refused role (fault_under h rule) fs t us
rule_then {role} {fs} {t} {us} h rule false next p judged = judged refl
