-- The answer for a whole list is its tree, or exactly its first fault.
use Rattle.std.proofs.Common.{◌≡◌, refl, sym, ◌∙◌, ap, subst, ℕ, zero, suc, ◌+◌, ◌<◌, ◌≤◌, List, [], ◌∷◌, ◌++◌, length, take, drop, ◌⊎◌, inl, inr, Ok, Err, Bool, true, false, if◌then◌else◌, nat_le, Option, Some, None, arith}
use Rattle.std.proofs.lemmas.List.{append-nil, append_assoc, take-append-drop, length-take-le}
use Rattle.std.proofs.lemmas.Bool.{leb-true, leb-false}
use Rattle.pw_grammar.specs.declared.error.SyntaxError.{SyntaxError}
use Rattle.pw_grammar.specs.declared.error.SyntaxError.TheVariants.{At, TooNested, TooLong, NoMemory}
use Rattle.pw_grammar.specs.Declarations.{UnitDerivation, spelled_unit, IsUnit, lines_of}
use Rattle.pw_grammar.specs.Faults.{Begins, IsStuck, IsFault, IsFirstFault, ComesBefore, GoesOnTooLong, token_of, StandsLate}
use Rattle.pw_grammar.specs.Reading.Limits.{first_nested, first_late, anew, Walk}
use Rattle.pw_grammar.specs.Reading.Whole.{earlier, first_limit, up_to, judged_by, value_of, judged, parsed, Tells}
use Rattle.pw_grammar.specs.Laws.{HasTree}
use Rattle.pw_grammar.specs.Reading.Steps.{ReadResult}
use Rattle.pw_grammar.specs.Reading.Declarations.{unit}
use Rattle.pw_grammar.proofs.Lawful.{near_or_far}
use Rattle.pw_grammar.proofs.Whole.{Knows, IsRead, IsRefused, TellsOf, from_start, reading_tells, before_or_at}
use Rattle.pw_lex.specs.declared.token.Token.{Token}
use Rattle.pw_tree.specs.declared.decl.Decl.{Decl}

-- what is known of the limits
pub record KnowsLimits : Type 0 where
  pub late_found : (c : UnitDerivation) → IsUnit c → (at found : ℕ) → first_late (anew at) (spelled_unit c) ≡ Some found →
      (t : ℕ) × (found ≡ at + t) × StandsLate c t
  pub late_first : (c : UnitDerivation) → IsUnit c → (at t : ℕ) → StandsLate c t →
      (found : ℕ) × (first_late (anew at) (spelled_unit c) ≡ Some found) × (found ≤ at + t)
  pub late_prefix : (w : Walk) (u v : List Token) (found : ℕ) → first_late w u ≡ Some found → first_late w (u ++ v) ≡ Some found
  pub late_shared : (w : Walk) (u v : List Token) (found : ℕ) → first_late w (u ++ v) ≡ Some found → found < w.at + length u →
      first_late w u ≡ Some found
  pub late_below : (w : Walk) (u : List Token) (found : ℕ) → first_late w u ≡ Some found →
      (w.at ≤ found) × (found < w.at + length u)
  pub nested_found : (ts : List Token) (t : ℕ) → first_nested 0 0 ts ≡ Some t → IsFault ts (TooNested t)
  pub nested_first : (ts : List Token) (t : ℕ) → IsFault ts (TooNested t) →
      (found : ℕ) × (first_nested 0 0 ts ≡ Some found) × (found ≤ t)

-- ---- prefixes

take_take : (a b : ℕ) (ts : List Token) → a ≤ b → take a (take b ts) ≡ take a ts
take_take zero b ts e = refl
take_take (suc a) zero ts e = absurd (omega arith)
take_take (suc a) (suc b) [] e = refl
take_take (suc a) (suc b) (t ∷ ts) e = ap (λ z. t ∷ z) (take_take a b ts (omega arith))

-- a shorter prefix begins what a longer one begins
pub shorter : (a b : ℕ) (ts : List Token) → a ≤ b → Begins (take b ts) → Begins (take a ts)
shorter a b ts e r = record {
  phrase = r.phrase;
  is = r.is;
  rest = drop a (take b ts) ++ r.rest;
  spells = r.spells ∙ (ap (λ z. z ++ r.rest) (sym (take-append-drop a (take b ts)) ∙ ap (λ z. z ++ drop a (take b ts)) (take_take a b ts e)) ∙ append_assoc (take a ts) (drop a (take b ts)) r.rest);
}

-- ---- limits

-- the walk finds a late token no later than a fault says
late_fault : (l : KnowsLimits) (ts : List Token) (t : ℕ) → t < length ts → GoesOnTooLong ts t →
    (found : ℕ) × (first_late (anew 0) ts ≡ Some found) × (found ≤ t)
late_fault l ts t low g =
    let f = l.late_first g.phrase g.is 0 t g.late in
    let near = (let z : f.0 ≤ t = omega (arith, f.2) in z) in
    let long = length-take-le (suc t) ts low in
    let shared = l.late_shared (anew 0) (take (suc t) ts) g.rest f.0 (subst (λ z. first_late (anew 0) z ≡ Some f.0) g.spells f.1) (let z : f.0 < 0 + length (take (suc t) ts) = omega (arith, near, long) in z) in
    (f.0, subst (λ z. first_late (anew 0) z ≡ Some f.0) (take-append-drop (suc t) ts) (l.late_prefix (anew 0) (take (suc t) ts) (drop (suc t) ts) f.0 shared), near)

-- what the walk finds late is a fault, where a unit goes on with the tokens up to it
late_is_fault : (l : KnowsLimits) (ts : List Token) (t : ℕ) → first_late (anew 0) ts ≡ Some t → Begins (take (suc t) ts) →
    IsFault ts (TooLong t)
late_is_fault l ts t found b =
    let below = l.late_below (anew 0) ts t found in
    let low = (let z : t < length ts = omega (arith, below.1) in z) in
    let long = length-take-le (suc t) ts low in
    let whole = subst (λ z. first_late (anew 0) z ≡ Some t) (sym (take-append-drop (suc t) ts)) found in
    let shared = l.late_shared (anew 0) (take (suc t) ts) (drop (suc t) ts) t whole (let z : t < 0 + length (take (suc t) ts) = omega (arith, long) in z) in
    let there = subst (λ z. first_late (anew 0) z ≡ Some t) (sym b.spells) (l.late_prefix (anew 0) (take (suc t) ts) b.rest t shared) in
    let late = l.late_found b.phrase b.is 0 t there in
    (low, record { phrase = b.phrase; is = b.is; rest = b.rest; spells = b.spells; late = subst (λ z. StandsLate b.phrase z) (let z : late.0 ≡ t = omega (arith, late.1) in z) late.2 })

pub record NoLimit (a b : Option ℕ) : Type 0 where
  pub nested : a ≡ None
  pub late : b ≡ None

no_limit : (a b : Option ℕ) → earlier a b ≡ None → NoLimit a b
no_limit None None e = record { nested = refl; late = refl }
no_limit (Some x) None e = absurd cc
no_limit None (Some y) e = absurd cc
no_limit (Some x) (Some y) e = absurd cc

-- the limit is one of the two, and neither comes before it
pub record LimitIs (a b : Option ℕ) (e : SyntaxError) : Type 0 where
  pub at : ℕ
  pub is : ((e ≡ TooNested at) × (a ≡ Some at)) ⊎ ((e ≡ TooLong at) × (b ≡ Some at))
  pub nested : (x t : ℕ) → a ≡ Some x → x ≤ t → ComesBefore e (TooNested t)
  pub late : (x t : ℕ) → b ≡ Some x → x ≤ t → ComesBefore e (TooLong t)

no_some : (A : Type 0) (x : ℕ) → None ≡ Some x → A
no_some A x e = absurd cc

same_some : (x y : ℕ) → Some x ≡ Some y → x ≡ y
same_some x y e = cc

before_by : (a b r s : ℕ) → a ≤ b → r ≤ s → (a < b) ⊎ ((a ≡ b) × (r ≤ s))
before_by a b r s e f = by (before_or_at a b e)
  where
    by : (a < b) ⊎ (a ≡ b) → (a < b) ⊎ ((a ≡ b) × (r ≤ s))
    by (inl z) = inl z
    by (inr z) = inr (z, f)

both_limits : (x y : ℕ) (b : Bool) → nat_le x y ≡ b → LimitIs (Some x) (Some y) (if b then TooNested x else TooLong y)
both_limits x y true e = record {
  at = x;
  is = inl (refl, refl);
  nested = λ z t same near. before_by x t 1 1 (let q = same_some x z same in omega (arith, q)) (omega arith);
  late = λ z t same near. before_by x t 1 2 (let q = same_some y z same in let r = leb-true x y e in omega (arith, q, r)) (omega arith);
}
both_limits x y false e = record {
  at = y;
  is = inr (refl, refl);
  nested = λ z t same near. inl (let q = same_some x z same in let r = leb-false x y e in omega (arith, q, r));
  late = λ z t same near. before_by y t 2 2 (let q = same_some y z same in omega (arith, q)) (omega arith);
}

some_error : (e f : SyntaxError) → Some e ≡ Some f → e ≡ f
some_error e f z = cc

limit_is : (a b : Option ℕ) (e : SyntaxError) → earlier a b ≡ Some e → LimitIs a b e
limit_is None None e z = absurd cc
limit_is (Some x) None e z = subst (λ f. LimitIs (Some x) None f) (some_error (TooNested x) e z) (record {
  at = x;
  is = inl (refl, refl);
  nested = λ z t same near. before_by x t 1 1 (let q = same_some x z same in omega (arith, q)) (omega arith);
  late = λ z t same near. no_some (ComesBefore (TooNested x) (TooLong t)) z same;
})
limit_is None (Some y) e z = subst (λ f. LimitIs None (Some y) f) (some_error (TooLong y) e z) (record {
  at = y;
  is = inr (refl, refl);
  nested = λ z t same near. no_some (ComesBefore (TooLong y) (TooNested t)) z same;
  late = λ z t same near. before_by y t 2 2 (let q = same_some y z same in omega (arith, q)) (omega arith);
})
limit_is (Some x) (Some y) e z = subst (λ f. LimitIs (Some x) (Some y) f) (some_error _ e z) (both_limits x y (nat_le x y) refl)

-- ---- the first fault

-- where a unit goes on with the tokens before t, no token before t is refused
refused_later : (ts : List Token) (t m : ℕ) → t ≤ length ts → Begins (take t ts) → IsStuck ts m → t ≤ m
refused_later ts t m low b (inl (inside, stuck)) = by (near_or_far t m)
  where
    by : (t ≤ m) ⊎ (m < t) → t ≤ m
    by (inl z) = z
    by (inr z) = absurd (stuck (shorter (suc m) t ts z b))
refused_later ts t m low b (inr (end, whole)) = omega (arith, end, low)

-- what is refused with no limit
refused_first : (l : KnowsLimits) (ts : List Token) (fault : SyntaxError) → IsRefused ts fault →
    NoLimit (first_nested 0 0 ts) (first_late (anew 0) ts)
    → IsFirstFault ts fault
refused_first l ts fault r none = subst (λ e. IsFirstFault ts e) (sym r.is) (record { is = r.stuck; first = others })
  where
    others : (other : SyntaxError) → IsFault ts other → ComesBefore (At r.at) other
    others (At m) f = before_by r.at m 0 0 (refused_later ts r.at m r.within r.begins f) (omega arith)
    others (TooNested m) f = let n = l.nested_first ts m f in no_some (ComesBefore (At r.at) (TooNested m)) n.0 (sym none.nested ∙ n.1)
    others (TooLong m) f = let n = late_fault l ts m f.0 f.1 in no_some (ComesBefore (At r.at) (TooLong m)) n.0 (sym none.late ∙ n.1)
    others NoMemory f = absurd f

read_has_tree : (l : KnowsLimits) (ts : List Token) (ds : List Decl) → IsRead ts ds →
    NoLimit (first_nested 0 0 ts) (first_late (anew 0) ts) → HasTree ts (record { decls = ds; lines = lines_of ts })
read_has_tree l ts ds r none = record {
  derives = record { phrase = r.phrase; is = r.is; spells = r.spells; decls = r.trees; lines = refl };
  no_fault = faultless;
}
  where
    whole : Begins ts
    whole = record { phrase = r.phrase; is = r.is; rest = []; spells = r.spells ∙ sym (append-nil ts) }

    faultless : (fault : SyntaxError) → IsFault ts fault → ⊥
    faultless (At m) (inl (inside, stuck)) = stuck (record
        { phrase = r.phrase; is = r.is; rest = drop (suc m) ts; spells = r.spells ∙ sym (take-append-drop (suc m) ts) })
    faultless (At m) (inr (end, not_whole)) = not_whole (record { phrase = r.phrase; is = r.is; spells = r.spells })
    faultless (TooNested m) f = let n = l.nested_first ts m f in no_some ⊥ n.0 (sym none.nested ∙ n.1)
    faultless (TooLong m) f = let n = late_fault l ts m f.0 f.1 in no_some ⊥ n.0 (sym none.late ∙ n.1)
    faultless NoMemory f = f

tells_freely : (l : KnowsLimits) (ts : List Token) (o : ReadResult (List Decl)) → TellsOf ts o →
    NoLimit (first_nested 0 0 ts) (first_late (anew 0) ts)
    → Tells ts (value_of o)
tells_freely l ts (Ok p) r none = read_has_tree l ts p.0 r none
tells_freely l ts (Err e) r none = refused_first l ts e r none

-- ---- with a limit

limit_below :
    (l : KnowsLimits) (ts : List Token) (e : SyntaxError) (x : LimitIs (first_nested 0 0 ts) (first_late (anew 0) ts) e) →
    x.at < length ts
limit_below l ts e x = by x.is
  where
    by :
        ((e ≡ TooNested x.at) × (first_nested 0 0 ts ≡ Some x.at)) ⊎ ((e ≡ TooLong x.at) × (first_late (anew 0) ts ≡ Some x.at)) →
        x.at < length ts
    by (inl (z, f)) = (l.nested_found ts x.at f).0
    by (inr (z, f)) = let below = l.late_below (anew 0) ts x.at f in omega (arith, below.1)

limit_at : (a b : Option ℕ) (e : SyntaxError) (x : LimitIs a b e) → token_of e ≡ x.at
limit_at a b e x = by x.is
  where
    by : ((e ≡ TooNested x.at) × (a ≡ Some x.at)) ⊎ ((e ≡ TooLong x.at) × (b ≡ Some x.at)) → token_of e ≡ x.at
    by (inl (z, f)) = ap token_of z
    by (inr (z, f)) = ap token_of z

comes_no_later : (a b : SyntaxError) → ComesBefore a b → token_of a ≤ token_of b
comes_no_later a b (inl z) = omega arith
comes_no_later a b (inr (z, f)) = omega (arith, z)

-- a unit goes on with the limit's token
limit_first : (l : KnowsLimits) (ts : List Token) (e : SyntaxError) (x : LimitIs (first_nested 0 0 ts) (first_late (anew 0) ts) e)
    → Begins (take (suc x.at) ts) → IsFirstFault ts e
limit_first l ts e x b = record { is = fault x.is; first = others }
  where
    fault :
        ((e ≡ TooNested x.at) × (first_nested 0 0 ts ≡ Some x.at)) ⊎ ((e ≡ TooLong x.at) × (first_late (anew 0) ts ≡ Some x.at)) →
        IsFault ts e
    fault (inl (z, f)) = subst (λ d. IsFault ts d) (sym z) (l.nested_found ts x.at f)
    fault (inr (z, f)) = subst (λ d. IsFault ts d) (sym z) (late_is_fault l ts x.at f b)

    others : (other : SyntaxError) → IsFault ts other → ComesBefore e other
    others (At m) f = inl (let after = refused_later ts (suc x.at) m (limit_below l ts e x) b f in let at_is = limit_at _ _ e x in omega (arith, after, at_is))
    others (TooNested m) f = let n = l.nested_first ts m f in x.nested n.0 m n.1 n.2
    others (TooLong m) f = let n = late_fault l ts m f.0 f.1 in x.late n.0 m n.1 n.2
    others NoMemory f = absurd f

-- refused at the limit or before it, among the tokens up to it
refused_under : (l : KnowsLimits) (ts : List Token) (e : SyntaxError) (x : LimitIs (first_nested 0 0 ts) (first_late (anew 0) ts) e) (m : ℕ)
    → m ≤ x.at → Begins (take m (take (suc x.at) ts)) → IsStuck (take (suc x.at) ts) m → IsFirstFault ts (At m)
refused_under l ts e x m near b stuck = record { is = inl (inside, unwanted stuck); first = others }
  where
    low : x.at < length ts
    low = limit_below l ts e x

    long : length (take (suc x.at) ts) ≡ suc x.at
    long = length-take-le (suc x.at) ts low

    inside : m < length ts
    inside = omega (arith, low)

    unwanted : IsStuck (take (suc x.at) ts) m → Begins (take (suc m) ts) → ⊥
    unwanted (inl (z, f)) g = f (subst (λ us. Begins us) (sym (take_take (suc m) (suc x.at) ts (omega arith))) g)
    unwanted (inr (z, f)) g = absurd (let q = z ∙ long in omega (arith, q))

    begins : Begins (take m ts)
    begins = subst (λ us. Begins us) (take_take m (suc x.at) ts (omega arith)) b

    at_is : token_of e ≡ x.at
    at_is = limit_at (first_nested 0 0 ts) (first_late (anew 0) ts) e x

    others : (other : SyntaxError) → IsFault ts other → ComesBefore (At m) other
    others (At n) f = before_by m n 0 0 (refused_later ts m n (omega (arith, inside)) begins f) (omega arith)
    others (TooNested n) f =
        let g = l.nested_first ts n f in
        let late = comes_no_later e (TooNested n) (x.nested g.0 n g.1 g.2) in
        before_by m n 0 1 (omega (arith, near, at_is, late)) (omega arith)
    others (TooLong n) f =
        let g = late_fault l ts n f.0 f.1 in
        let late = comes_no_later e (TooLong n) (x.late g.0 n g.1 g.2) in
        before_by m n 0 2 (omega (arith, near, at_is, late)) (omega arith)
    others NoMemory f = absurd f

judged_err : (l : KnowsLimits) (ts : List Token) (e : SyntaxError)
    (x : LimitIs (first_nested 0 0 ts) (first_late (anew 0) ts) e) (fault : SyntaxError)
    → IsRefused (take (suc x.at) ts) fault → (b : Bool) → nat_le (token_of fault) (token_of e) ≡ b → IsFirstFault ts (if b then fault else e)
judged_err l ts e x fault r true z = subst (λ d. IsFirstFault ts d) (sym r.is) (refused_under l ts e x r.at near r.begins r.stuck)
  where
    near : r.at ≤ x.at
    near = let p = leb-true (token_of fault) (token_of e) z in let q = ap token_of r.is in let at_is = limit_at _ _ e x in omega (arith, p, q, at_is)
judged_err l ts e x fault r false z = limit_first l ts e x (subst (λ us. Begins us) (take_take (suc x.at) (suc x.at) ts (omega arith)) (subst (λ n. Begins (take n (take (suc x.at) ts))) at_end r.begins))
  where
    at_end : r.at ≡ suc x.at
    at_end =
        let p = leb-false (token_of fault) (token_of e) z in
        let q = ap token_of r.is in
        let at_is = limit_at _ _ e x in
        let long = length-take-le (suc x.at) ts (limit_below l ts e x) in
        let within = r.within in omega (arith, p, q, at_is, long, within)

tells_under : (l : KnowsLimits) (ts : List Token) (e : SyntaxError)
    (x : LimitIs (first_nested 0 0 ts) (first_late (anew 0) ts) e) (o : ReadResult (List Decl))
    → TellsOf (take (suc x.at) ts) o → Tells ts (judged_by e o)
tells_under l ts e x (Ok p) r = limit_first l ts e x (record { phrase = r.phrase; is = r.is; rest = []; spells = r.spells ∙ sym (append-nil (take (suc x.at) ts)) })
tells_under l ts e x (Err fault) r = judged_err l ts e x fault r (nat_le (token_of fault) (token_of e)) refl

cut_short : (n m : ℕ) (ts : List Token) → m ≤ length ts → length ts < n → length (take m ts) < n
cut_short n m ts low short = let e = length-take-le m ts low in omega (arith, e)

parsed_by : (k : Knows) (l : KnowsLimits) (n : ℕ) (ts : List Token) → length ts < n → (limit : Option SyntaxError) →
    earlier (first_nested 0 0 ts) (first_late (anew 0) ts) ≡ limit
    → Tells ts (judged limit (unit n (from_start (up_to limit ts))))
parsed_by k l n ts short None is = tells_freely l ts (unit n (from_start ts)) (reading_tells k n ts short) (no_limit _ _ is)
parsed_by k l n ts short (Some e) is =
    let x = limit_is (first_nested 0 0 ts) (first_late (anew 0) ts) e is in
    let low = limit_below l ts e x in
    let at_is = limit_at _ _ e x in
    subst (λ m. Tells ts (judged_by e (unit n (from_start (take (suc m) ts))))) (sym at_is)
    (tells_under l ts e x (unit n (from_start (take (suc x.at) ts))) (reading_tells k n (take (suc x.at) ts) (cut_short n (suc x.at) ts low short)))

pub parsed_tells : (k : Knows) (l : KnowsLimits) (n : ℕ) (ts : List Token) → length ts < n → Tells ts (parsed n ts)
unfolding parsed first_limit
parsed_tells k l n ts short = parsed_by k l n ts short (first_limit ts) refl
