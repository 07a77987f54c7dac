-- Where a unit's functions are too long: what the walk over its tokens finds is what its derivation says; and what the
-- walk finds depends on no later token.
use Rattle.std.proofs.Common.{◌≡◌, refl, sym, ◌∙◌, ap, subst, ℕ, suc, ◌+◌, ◌<◌, ◌≤◌, List, [], ◌∷◌, ◌++◌, length, ◌⊎◌, inl, inr, Bool, true, false, if◌then◌else◌, Option, Some, arith}
use Rattle.std.proofs.lemmas.List.{append_assoc, length-append, take-append-drop, length-take-le}
use Rattle.std.specs.Prelude.{max, take, drop}
use Rattle.pw_grammar.specs.declared.sort.Sort.TheVariants as s
use Rattle.pw_grammar.specs.Terminals.{sort}
use Rattle.pw_grammar.specs.Statements.{spelled_type, spelled_statements}
use Rattle.pw_grammar.specs.Declarations.{DeclarationDerivation, prototype, function, variable, spelled_declaration, IsDeclaration, spelled_storage, spelled_result, spelled_parameters, spelled_variable, UnitDerivation, spelled_unit, IsUnit}
use Rattle.pw_grammar.specs.declared.error.SyntaxError.TheVariants.{TooLong}
use Rattle.pw_grammar.specs.Faults.{before_body, IsLate, StandsLate, Begins, IsFault}
use Rattle.pw_grammar.specs.Reading.Limits.{Walk, anew, onward, step, is_late, is_last, first_late}
use Rattle.pw_grammar.proofs.Lawful.{near_or_far}
use Rattle.pw_grammar.proofs.Late.{IsInner}
use Rattle.pw_grammar.proofs.Inner.{nothing_is, inner_statements}
use Rattle.pw_grammar.proofs.LateFunctions.{after, IsOuter, on_sort, ends, outer_head, outer_type, outer_result, outer_storage, outer_variable, defining_storage, variable_storage, inner_parameters, passes_head, passes_body, finds_body}
use Rattle.pw_lex.specs.declared.token.Token.{Token}

-- ---- a declaration in two parts: up to its name, and the rest

abbrev pub head : List Token → List Token → Token → List Token
head g r x = g ++ (r ++ x ∷ [])

head_splits : (g r z : List Token) (x : Token) → g ++ (r ++ x ∷ z) ≡ head g r x ++ z
head_splits g r z x = sym (append_assoc g (r ++ x ∷ []) z ∙ ap (λ w. g ++ w) (append_assoc r (x ∷ []) z))

front : (g r z v : List Token) (x : Token) → (g ++ (r ++ x ∷ z)) ++ v ≡ head g r x ++ (z ++ v)
front g r z v x = ap (λ w. w ++ v) (head_splits g r z x) ∙ append_assoc (head g r x) z v

front_length : (g r z : List Token) (x : Token) → length (g ++ (r ++ x ∷ z)) ≡ length (head g r x) + length z
front_length g r z x = ap length (head_splits g r z x) ∙ length-append (head g r x) z

head_length : (g r : List Token) (x : Token) → length (head g r x) ≡ length g + length r + 1
head_length g r x = length-append g (r ++ x ∷ []) ∙ (ap (λ n. length g + n) (length-append r (x ∷ [])) ∙ three (length g) (length r))
  where
    three : (n m : ℕ) → n + (m + 1) ≡ n + m + 1
    three n m = omega arith

-- ---- what the walk does over a declaration

-- no token of it stands late, and the walk passes it whole
pub record Passes (c : DeclarationDerivation) : Type 0 where
  pub early : (t : ℕ) → IsLate c t (before_body c) → ⊥
  pub passes : (at : ℕ) (v : List Token) →
      first_late (anew at) (spelled_declaration c ++ v) ≡ first_late (anew (at + length (spelled_declaration c))) v

-- it is a function's definition of more than 8,192 tokens, and the walk finds the first of them that stands late
pub record Catches (c : DeclarationDerivation) : Type 0 where
  pub brace : ℕ
  pub body : before_body c ≡ Some brace
  pub inside : brace < length (spelled_declaration c)
  pub long : 8192 < length (spelled_declaration c)
  pub finds : (at : ℕ) (v : List Token) → first_late (anew at) (spelled_declaration c ++ v) ≡ Some (at + max brace 8192)

-- the rest of a prototype
passes_prototype : (h ps v : List Token) (o c e : Token) (at : ℕ) → IsOuter h → sort o ≡ s.LeftParen → IsInner ps →
    sort c ≡ s.RightParen → sort e ≡ s.Semicolon
    → first_late (anew at) (h ++ (o ∷ ((ps ++ c ∷ e ∷ []) ++ v))) ≡ first_late (anew (at + (length h + suc (length (ps ++ c ∷ e ∷ []))))) v
passes_prototype h ps v o c e at outer o_is inner c_is e_is =
    ap (λ z. first_late (anew at) (h ++ (o ∷ z))) (append_assoc ps (c ∷ e ∷ []) v)
    ∙ (passes_head h ps (e ∷ v) o c at at outer o_is inner c_is
    ∙ (on_sort (after (at + (length h + length ps + 2)) at true) e s.Semicolon v e_is
    ∙ (ends (at + (length h + length ps + 2)) at true v
    ∙ ap (λ k. first_late (anew k) v) (sum at (length h) (length ps) (length (ps ++ c ∷ e ∷ [])) (length-append ps (c ∷ e ∷ []))))))
  where
    sum : (at n m k : ℕ) → k ≡ m + 2 → suc (at + (n + m + 2)) ≡ at + (n + suc k)
    sum at n m k e = omega arith

-- the rest of a variable
passes_variable : (h u v : List Token) (e : Token) (at : ℕ) → IsOuter h → IsOuter u → sort e ≡ s.Semicolon
    → first_late (anew at) (h ++ ((u ++ e ∷ []) ++ v)) ≡ first_late (anew (at + (length h + length (u ++ e ∷ [])))) v
passes_variable h u v e at a b e_is =
    ap (λ z. first_late (anew at) (h ++ z)) (append_assoc u (e ∷ []) v)
    ∙ (a.passes at at (u ++ e ∷ v)
    ∙ (b.passes (at + length h) at (e ∷ v)
    ∙ (on_sort (after (at + length h + length u) at false) e s.Semicolon v e_is
    ∙ (ends (at + length h + length u) at false v
    ∙ ap (λ k. first_late (anew k) v) (sum at (length h) (length u) (length (u ++ e ∷ [])) (length-append u (e ∷ [])))))))
  where
    sum : (at n m k : ℕ) → k ≡ m + 1 → suc (at + n + m) ≡ at + (n + k)
    sum at n m k e = omega arith

-- the rest of a function's definition, from its name on
abbrev rest_of_function : List Token → List Token → Token → Token → Token → Token → List Token
rest_of_function ps body o c b e = o ∷ (ps ++ c ∷ b ∷ (body ++ e ∷ []))

rest_splits : (ps body v : List Token) (o c b e : Token) →
    rest_of_function ps body o c b e ++ v ≡ o ∷ (ps ++ c ∷ b ∷ (body ++ e ∷ v))
rest_splits ps body v o c b e =
    ap (λ z. o ∷ z) (append_assoc ps (c ∷ b ∷ (body ++ e ∷ [])) v ∙ ap (λ z. ps ++ c ∷ b ∷ z) (append_assoc body (e ∷ []) v))

rest_length : (ps body : List Token) (o c b e : Token) → length (rest_of_function ps body o c b e) ≡ length ps + length body + 4
rest_length ps body o c b e = sum (length ps) (length body) _ _ (length-append ps (c ∷ b ∷ (body ++ e ∷ []))) (length-append body (e ∷ []))
  where
    sum : (n m k l : ℕ) → k ≡ n + suc (suc l) → l ≡ m + 1 → suc k ≡ n + m + 4
    sum n m k l p q = omega arith

-- the tokens of a function's definition
pub record HasBody (h ps body : List Token) (o c b e : Token) : Type 0 where
  pub outer : IsOuter h
  pub o_is : sort o ≡ s.LeftParen
  pub list : IsInner ps
  pub c_is : sort c ≡ s.RightParen
  pub b_is : sort b ≡ s.LeftBrace
  pub inner : IsInner body
  pub e_is : sort e ≡ s.RightBrace

passes_function : (h ps body v : List Token) (o c b e : Token) (at : ℕ) → HasBody h ps body o c b e
    → length h + length (rest_of_function ps body o c b e) ≤ 8192
    → first_late (anew at) (h ++ (rest_of_function ps body o c b e ++ v)) ≡ first_late (anew (at + (length h + length (rest_of_function ps body o c b e)))) v
passes_function h ps body v o c b e at p short =
    ap (λ z. first_late (anew at) (h ++ z)) (rest_splits ps body v o c b e)
    ∙ (passes_head h ps (b ∷ (body ++ e ∷ v)) o c at at p.outer p.o_is p.list p.c_is
    ∙ (passes_body b e body v (at + (length h + length ps + 2)) at p.b_is p.inner p.e_is
    (fits at (length h) (length ps) (length body) _ (rest_length ps body o c b e) short)
    ∙ ap (λ k. first_late (anew k) v) (sum at (length h) (length ps) (length body) _ (rest_length ps body o c b e))))
  where
    sum : (at n m l k : ℕ) → k ≡ m + l + 4 → suc (suc (at + (n + m + 2)) + l) ≡ at + (n + k)
    sum at n m l k e = omega arith

    fits : (at n m l k : ℕ) → k ≡ m + l + 4 → n + k ≤ 8192 → suc (suc (at + (n + m + 2)) + l) ≤ at + 8192
    fits at n m l k e f = omega arith

finds_function : (h ps body v : List Token) (o c b e : Token) (at : ℕ) → HasBody h ps body o c b e
    → 8192 < length h + length (rest_of_function ps body o c b e)
    → first_late (anew at) (h ++ (rest_of_function ps body o c b e ++ v)) ≡ Some (at + max (length h + length ps + 2) 8192)
finds_function h ps body v o c b e at p long =
    ap (λ z. first_late (anew at) (h ++ z)) (rest_splits ps body v o c b e)
    ∙ (passes_head h ps (b ∷ (body ++ e ∷ v)) o c at at p.outer p.o_is p.list p.c_is
    ∙ (finds_body b e body v (at + (length h + length ps + 2)) at p.b_is p.inner p.e_is
    (exceeds at (length h) (length ps) (length body) _ (rest_length ps body o c b e) long)
    ∙ ap Some (shift at (length h + length ps + 2))))
  where
    shift : (at n : ℕ) → max (at + n) (at + 8192) ≡ at + max n 8192
    shift at n = omega arith

    exceeds : (at n m l k : ℕ) → k ≡ m + l + 4 → 8192 < n + k → at + 8192 < suc (suc (at + (n + m + 2)) + l)
    exceeds at n m l k e f = omega arith

-- ---- the same of the derivation

walk_function : (g r ps body : List Token) (x o c b e : Token) (w : DeclarationDerivation) →
    spelled_declaration w ≡ g ++ (r ++ x ∷ rest_of_function ps body o c b e)
    → before_body w ≡ Some (length g + length r + length ps + 3)
    → HasBody (head g r x) ps body o c b e → (length (spelled_declaration w) ≤ 8192) ⊎ (8192 < length (spelled_declaration w)) → Passes w ⊎ Catches w
walk_function g r ps body x o c b e w spells brace p (inl short) = inl (record {
  early = λ t late. too_late t late;
  passes = λ at v.
      ap (λ u. first_late (anew at) (u ++ v)) spells
      ∙ (ap (λ u. first_late (anew at) u) (front g r (rest_of_function ps body o c b e) v x)
      ∙ (passes_function (head g r x) ps body v o c b e at p (subst (λ n. n ≤ 8192) counts short)
      ∙ ap (λ n. first_late (anew (at + n)) v) (sym counts)));
})
  where
    counts : length (spelled_declaration w) ≡ length (head g r x) + length (rest_of_function ps body o c b e)
    counts = ap length spells ∙ front_length g r (rest_of_function ps body o c b e) x

    short_of : (t n brace : ℕ) → n ≤ 8192 → (brace ≤ t) × (8192 ≤ t) × (t < n) → ⊥
    short_of t n brace e l = omega arith

    too_late : (t : ℕ) → IsLate w t (before_body w) → ⊥
    too_late t late = short_of t (length (spelled_declaration w)) (length g + length r + length ps + 3) short (subst (λ o. IsLate w t o) brace late)
walk_function g r ps body x o c b e w spells brace p (inr long) = inr (record {
  brace = length g + length r + length ps + 3;
  body = brace;
  inside = within_it (length g) (length r) (length ps) (length body) _ _ _ counts (rest_length ps body o c b e) (head_length g r x);
  long = long;
  finds = λ at v.
      ap (λ u. first_late (anew at) (u ++ v)) spells
      ∙ (ap (λ u. first_late (anew at) u) (front g r (rest_of_function ps body o c b e) v x)
      ∙ (finds_function (head g r x) ps body v o c b e at p (subst (λ n. 8192 < n) counts long)
      ∙ ap (λ n. Some (at + max n 8192)) (same_brace (length g) (length r) (length ps) _ (head_length g r x))));
})
  where
    counts : length (spelled_declaration w) ≡ length (head g r x) + length (rest_of_function ps body o c b e)
    counts = ap length spells ∙ front_length g r (rest_of_function ps body o c b e) x

    within_it : (n m l i all rest top : ℕ) → all ≡ top + rest → rest ≡ l + i + 4 → top ≡ n + m + 1 → n + m + l + 3 < all
    within_it n m l i all rest top a b c = omega arith

    same_brace : (n m l top : ℕ) → top ≡ n + m + 1 → top + l + 2 ≡ n + m + l + 3
    same_brace n m l top e = omega arith

-- a declaration is passed, or is too long
pub walk_declaration : (c : DeclarationDerivation) → IsDeclaration c → Passes c ⊎ Catches c
walk_declaration (prototype g r x o ps c e) i = inl (record {
  early = λ t late. late;
  passes = λ at v.
      ap (λ u. first_late (anew at) u) (front (spelled_storage g) (spelled_result r) (o ∷ (spelled_parameters ps ++ c ∷ e ∷ [])) v x)
      ∙ (passes_prototype (head (spelled_storage g) (spelled_result r) x) (spelled_parameters ps) v o c e at
      (outer_head (spelled_storage g) (spelled_result r) x (outer_storage g i.0) (outer_result r i.1) i.2) i.3 (inner_parameters ps i.4) i.5 i.6
      ∙ ap (λ n. first_late (anew (at + n)) v) (sym (front_length (spelled_storage g) (spelled_result r) (o ∷ (spelled_parameters ps ++ c ∷ e ∷ [])) x)));
})
walk_declaration (function g r x o ps c b body e) i =
    walk_function (spelled_storage g) (spelled_result r) (spelled_parameters ps) (spelled_statements body) x o c b e (function g r x o ps c b body e) refl refl
    (record {
      outer = outer_head (spelled_storage g) (spelled_result r) x (outer_storage g (defining_storage g i.0)) (outer_result r i.1) i.2;
      o_is = i.3;
      list = inner_parameters ps i.4;
      c_is = i.6;
      b_is = i.7;
      inner = inner_statements body i.8;
      e_is = i.9;
    })
    (near_or_far (length (spelled_declaration (function g r x o ps c b body e))) 8192)
walk_declaration (variable g ty x u e) i = inl (record {
  early = λ t late. late;
  passes = λ at v.
      ap (λ z. first_late (anew at) z) (front (spelled_storage g) (spelled_type ty) (spelled_variable u ++ e ∷ []) v x)
      ∙ (passes_variable (head (spelled_storage g) (spelled_type ty) x) (spelled_variable u) v e at
      (outer_head (spelled_storage g) (spelled_type ty) x (outer_storage g (variable_storage g u i.3)) (outer_type ty i.0) i.1) (outer_variable u i.2) i.4
      ∙ ap (λ n. first_late (anew (at + n)) v) (sym (front_length (spelled_storage g) (spelled_type ty) (spelled_variable u ++ e ∷ []) x)));
})

-- ---- units

pub same_number : (n m : ℕ) → Some n ≡ Some m → m ≡ n
same_number n m e = cc

-- a token of the unit stands late, and has this number
abbrev pub IsLateAt : UnitDerivation → ℕ → ℕ → Type 0
IsLateAt c at found = (t : ℕ) × (found ≡ at + t) × StandsLate c t

found_behind_it : (c : DeclarationDerivation) (cs : UnitDerivation) (at found : ℕ) →
    IsLateAt cs (at + length (spelled_declaration c)) found → IsLateAt (c ∷ cs) at found
unfolding StandsLate
found_behind_it c cs at found f =
    (length (spelled_declaration c) + f.0, (let e : found ≡ (at + length (spelled_declaration c)) + f.0 = f.1 in omega (arith, e)), inr (f.0, refl, f.2))

caught : (c : DeclarationDerivation) (cs : UnitDerivation) (at found : ℕ) → (p : Catches c) → found ≡ at + max p.brace 8192 →
    IsLateAt (c ∷ cs) at found
unfolding StandsLate
caught c cs at found p e =
    (max p.brace 8192, e, inl (subst (λ o. IsLate c (max p.brace 8192) o) (sym p.body) (late p.brace (length (spelled_declaration c)) p.inside p.long)))
  where
    late : (brace n : ℕ) → brace < n → 8192 < n → (brace ≤ max brace 8192) × (8192 ≤ max brace 8192) × (max brace 8192 < n)
    late brace n inside long = omega arith

late_found_with : (c : DeclarationDerivation) (cs : UnitDerivation) (at found : ℕ) →
    ((at found : ℕ) → first_late (anew at) (spelled_unit cs) ≡ Some found → IsLateAt cs at found)
    → Passes c ⊎ Catches c → first_late (anew at) (spelled_declaration c ++ spelled_unit cs) ≡ Some found → IsLateAt (c ∷ cs) at found
late_found_with c cs at found others (inl p) e =
    found_behind_it c cs at found (others (at + length (spelled_declaration c)) found (sym (p.passes at (spelled_unit cs)) ∙ e))
late_found_with c cs at found others (inr p) e =
    caught c cs at found p (same_number (at + max p.brace 8192) found (sym (p.finds at (spelled_unit cs)) ∙ e))

-- what is found stands late
pub late_found : (c : UnitDerivation) → IsUnit c → (at found : ℕ) → first_late (anew at) (spelled_unit c) ≡ Some found →
    (t : ℕ) × (found ≡ at + t) × StandsLate c t
unfolding first_late spelled_unit IsUnit
late_found [] i at found e = absurd (nothing_is found e)
late_found (c ∷ cs) i at found e = late_found_with c cs at found (late_found cs i.1) (walk_declaration c i.0) e

-- something is found up to a number
abbrev pub FindsBy : Walk → List Token → ℕ → Type 0
FindsBy w u t = (found : ℕ) × (first_late w u ≡ Some found) × (found ≤ t)

-- in a function that is too long, one is found up to each number from its brace and its token 8,192 on
finds_by : (c : DeclarationDerivation) (at t : ℕ) (v : List Token) → (p : Catches c) → p.brace ≤ t → 8192 ≤ t →
    FindsBy (anew at) (spelled_declaration c ++ v) (at + t)
finds_by c at t v p brace far = (at + max p.brace 8192, p.finds at v, least p.brace brace)
  where
    least : (n : ℕ) → n ≤ t → at + max n 8192 ≤ at + t
    least n e = omega arith

late_first_with : (c : DeclarationDerivation) (cs : UnitDerivation) (at t : ℕ) →
    ((at t : ℕ) → StandsLate cs t → FindsBy (anew at) (spelled_unit cs) (at + t))
    → Passes c ⊎ Catches c → IsLate c t (before_body c) ⊎ ((before : ℕ) × (t ≡ length (spelled_declaration c) + before) × StandsLate cs before)
    → FindsBy (anew at) (spelled_declaration c ++ spelled_unit cs) (at + t)
late_first_with c cs at t others (inl p) (inl late) = absurd (p.early t late)
late_first_with c cs at t others (inl p) (inr later) =
    let f = others (at + length (spelled_declaration c)) later.0 later.2 in
    (f.0, p.passes at (spelled_unit cs) ∙ f.1, on_from (length (spelled_declaration c)) later.0 f.0 later.1 f.2)
  where
    on_from : (n before found : ℕ) → t ≡ n + before → found ≤ at + n + before → found ≤ at + t
    on_from n before found e f = omega arith
late_first_with c cs at t others (inr p) (inl late) =
    let l = subst (λ o. IsLate c t o) p.body late in finds_by c at t (spelled_unit cs) p l.0 l.1
late_first_with c cs at t others (inr p) (inr later) =
    finds_by c at t (spelled_unit cs) p (behind p.brace (length (spelled_declaration c)) later.0 later.1 p.inside)
    (far (length (spelled_declaration c)) later.0 later.1 p.long)
  where
    behind : (brace n before : ℕ) → t ≡ n + before → brace < n → brace ≤ t
    behind brace n before e f = omega arith

    far : (n before : ℕ) → t ≡ n + before → 8192 < n → 8192 ≤ t
    far n before e f = omega arith

-- where a token stands late, one is found that is not after it
pub late_first : (c : UnitDerivation) → IsUnit c → (at t : ℕ) → StandsLate c t →
    (found : ℕ) × (first_late (anew at) (spelled_unit c) ≡ Some found) × (found ≤ at + t)
unfolding StandsLate spelled_unit IsUnit
late_first [] i at t late = absurd late
late_first (c ∷ cs) i at t late = late_first_with c cs at t (late_first cs i.1) (walk_declaration c i.0) late

-- ---- what is found depends on no later token

late_prefix_with : (b : Bool) (at found : ℕ) (o p : Option ℕ) → (o ≡ Some found → p ≡ Some found)
    → (if b then Some at else o) ≡ Some found → (if b then Some at else p) ≡ Some found
late_prefix_with true at found o p others e = e
late_prefix_with false at found o p others e = others e

-- what is found in the first tokens is found in all
pub late_prefix : (w : Walk) (u v : List Token) (found : ℕ) → first_late w u ≡ Some found → first_late w (u ++ v) ≡ Some found
unfolding first_late
late_prefix w [] v found e = absurd (nothing_is found e)
late_prefix w (t ∷ u) v found e =
    late_prefix_with (is_late w t) w.at found (first_late (step w t) u) (first_late (step w t) (u ++ v)) (late_prefix (step w t) u v found) e

step_at_by : (b : Bool) (w v : Walk) → v.at ≡ suc w.at → (if b then anew (suc w.at) else v).at ≡ suc w.at
step_at_by true w v e = refl
step_at_by false w v e = e

step_at : (w : Walk) (t : Token) → (step w t).at ≡ suc w.at
unfolding step
step_at w t = step_at_by (is_last w t) w (onward w t) refl

late_below_with : (b : Bool) (at n found : ℕ) (o : Option ℕ) → (o ≡ Some found → (suc at ≤ found) × (found < suc at + n))
    → (if b then Some at else o) ≡ Some found → (at ≤ found) × (found < at + suc n)
late_below_with true at n found o others e = let same : found ≡ at = same_number at found e in omega (arith, same)
late_below_with false at n found o others e = let f = others e in omega (arith, f)

-- it is one of the tokens
pub late_below : (w : Walk) (u : List Token) (found : ℕ) → first_late w u ≡ Some found →
    (w.at ≤ found) × (found < w.at + length u)
unfolding first_late
late_below w [] found e = absurd (nothing_is found e)
late_below w (t ∷ u) found e =
    late_below_with (is_late w t) w.at (length u) found (first_late (step w t) u)
    (λ f. subst (λ n. (n ≤ found) × (found < n + length u)) (step_at w t) (late_below (step w t) u found f)) e

late_shared_with : (b : Bool) (at n found : ℕ) (o p : Option ℕ) → (o ≡ Some found → found < suc at + n → p ≡ Some found)
    → (if b then Some at else o) ≡ Some found → found < at + suc n → (if b then Some at else p) ≡ Some found
late_shared_with true at n found o p others e near = e
late_shared_with false at n found o p others e near = others e (omega arith)

late_nowhere : (at found : ℕ) → at ≤ found → found < at + 0 → ⊥
late_nowhere at found low high = omega arith

-- what is found among the first tokens is found in them alone
pub late_shared : (w : Walk) (u v : List Token) (found : ℕ) → first_late w (u ++ v) ≡ Some found → found < w.at + length u →
    first_late w u ≡ Some found
unfolding first_late
late_shared w [] v found e near = absurd (late_nowhere w.at found (late_below w v found e).0 near)
late_shared w (t ∷ u) v found e near =
    late_shared_with (is_late w t) w.at (length u) found (first_late (step w t) (u ++ v)) (first_late (step w t) u)
    (λ f g. late_shared (step w t) u v found f (subst (λ n. found < n + length u) (sym (step_at w t)) g)) e near

-- ---- the fault

-- a token up to t is one of the tokens up to t
among : (found t : ℕ) (ts : List Token) → t < length ts → found ≤ t → found < 0 + length (take (suc t) ts)
among found t ts short low = subst (λ n. found < 0 + n) (sym (length-take-le (suc t) ts short)) (omega arith)

from_zero : (found t : ℕ) → found ≡ 0 + t → t ≡ found
from_zero found t e = omega arith

-- what is found is the fault, where a unit goes on from the tokens up to it
pub too_long_found : (ts : List Token) (found : ℕ) → first_late (anew 0) ts ≡ Some found → Begins (take (suc found) ts) →
    IsFault ts (TooLong found)
too_long_found ts found e b =
    let f = late_found b.phrase b.is 0 found (ap (λ u. first_late (anew 0) u) b.spells ∙ late_prefix (anew 0) (take (suc found) ts) b.rest found at_front) in
    (short, record { phrase = b.phrase; is = b.is; rest = b.rest; spells = b.spells; late = subst (λ n. StandsLate b.phrase n) (from_zero found f.0 f.1) f.2 })
  where
    short : found < length ts
    short = let z : found < 0 + length ts = (late_below (anew 0) ts found e).1 in omega (arith, z)

    at_front : first_late (anew 0) (take (suc found) ts) ≡ Some found
    at_front = late_shared (anew 0) (take (suc found) ts) (drop (suc found) ts) found
        (ap (λ u. first_late (anew 0) u) (take-append-drop (suc found) ts) ∙ e) (among found found ts short (omega arith))

-- where that fault is, one is found that is not after it
pub too_long_first : (ts : List Token) (t : ℕ) → IsFault ts (TooLong t) →
    (found : ℕ) × (first_late (anew 0) ts ≡ Some found) × (found ≤ t)
too_long_first ts t fault =
    let g = fault.1 in
    let f = late_first g.phrase g.is 0 t g.late in (
      f.0,
      ap (λ u. first_late (anew 0) u) (sym (take-append-drop (suc t) ts))
          ∙ late_prefix (anew 0) (take (suc t) ts) (drop (suc t) ts) f.0
          (late_shared (anew 0) (take (suc t) ts) g.rest f.0 (sym (ap (λ u. first_late (anew 0) u) g.spells) ∙ f.1) (among f.0 t ts fault.0 (low f.0 f.2))),
      low f.0 f.2,
    )
  where
    low : (found : ℕ) → found ≤ 0 + t → found ≤ t
    low found e = omega arith
