-- Whole lists: what is read of a list is its unit, and where a list is refused no unit goes on.
use Rattle.std.proofs.Common.{◌≡◌, refl, sym, ◌∙◌, ap, subst, ℕ, zero, suc, ◌+◌, ◌<◌, ◌≤◌, List, [], ◌++◌, length, take, drop, ◌⊎◌, inl, inr, Ok, Err, arith}
use Rattle.std.proofs.lemmas.List.{append-nil, length-append, take-append-drop, length-take-le}
use Rattle.std.proofs.Math.Seq.{take-append_seam}
use Rattle.std.proofs.Math.Nat.{zero-add}
use Rattle.pw_grammar.specs.declared.sort.Sort.TheVariants as s
use Rattle.pw_grammar.specs.declared.error.SyntaxError.{SyntaxError}
use Rattle.pw_grammar.specs.declared.error.SyntaxError.TheVariants.{At}
use Rattle.pw_grammar.specs.Declarations.{UnitDerivation, spelled_unit, IsUnit, trees_of_declarations}
use Rattle.pw_grammar.specs.Faults.{Begins, IsWhole, IsStuck}
use Rattle.pw_grammar.specs.Reading.Steps.{Position, ReadResult}
use Rattle.pw_grammar.specs.Reading.Declarations.{unit}
use Rattle.pw_grammar.proofs.Lawful.{Language, Agree, GoesOn, HasRead, HasStopped, Says, Same, Lawful, near_or_far}
use Rattle.pw_lex.specs.declared.token.Token.{Token}
use Rattle.pw_tree.specs.declared.decl.Decl.{Decl}

pub record IsUnitAt (at : ℕ) (ds : List Decl) (u : List Token) : Type 0 where
  pub phrase : UnitDerivation
  pub is : IsUnit phrase
  pub spells : u ≡ spelled_unit phrase
  pub trees : ds ≡ trees_of_declarations at phrase

abbrev pub AUnit : Language (List Decl)
AUnit = λ at ds u x. IsUnitAt at ds u

abbrev pub from_start : List Token → Position
from_start tokens = record { at = 0; rest = tokens }

-- what is known of the reader of units
pub record Knows : Type 0 where
  pub lawful : (n : ℕ) → Lawful n AUnit (unit n) (unit (suc n))
  pub reads : (n : ℕ) (c : UnitDerivation) → IsUnit c → length (spelled_unit c) < n
      → unit n (from_start (spelled_unit c)) ≡ Ok (trees_of_declarations 0 c, record { at = length (spelled_unit c); rest = [] })
  pub ends : (n : ℕ) (i j : Position) (ds : List Decl) → unit n i ≡ Ok (ds, j) → j.rest ≡ []

-- more turns than enough give the same
more_turns : (k : Knows) (n m : ℕ) (i : Position) → length i.rest < n → unit (m + n) i ≡ unit n i
more_turns k n zero i short = ap (λ z. unit z i) (let e : zero + n ≡ n = omega arith in e)
more_turns k n (suc m) i short =
    ap (λ z. unit z i) (let e : suc m + n ≡ suc (m + n) = omega arith in e)
    ∙ (sym ((k.lawful (m + n)).settled i (omega arith)) ∙ more_turns k n m i short)

-- some unit goes on with the tokens before the one that was refused
begins_before : (at : ℕ) (u : List Token) → GoesOn AUnit at u → Begins u
begins_before at u g = let r = g.reads s.End (λ e. cc) in record { phrase = r.phrase; is = r.is; rest = g.rest; spells = sym r.spells }

-- two lists that begin with the same tokens, as places
same_front : (k : ℕ) (u x y : List Token) → k < length u → Agree k (from_start (u ++ x)) (from_start (u ++ y))
same_front k u x y far = record { at = refl; shared = u; more = x; other = y; left = refl; right = refl; far = omega arith }

ok_is_no_err : {A : Type 0} (o : ReadResult A) (p : A × Position) (e : SyntaxError) → o ≡ Ok p → o ≡ Err e → ⊥
ok_is_no_err o p e a b = not_both (sym a ∙ b)
  where
    not_both : Ok p ≡ Err e → ⊥
    not_both z = cc

-- no unit goes on with the token that was refused: it would be read, with turns enough for both lists
stuck_by : (k : Knows) (n m at : ℕ) (u x : List Token) (b : Begins u) → length (u ++ x) < n →
    length (spelled_unit b.phrase) < m + n
    → unit n (from_start (u ++ x)) ≡ Err (At at) → at < length u → ⊥
stuck_by k n m at u x b short enough is low =
    let p = k.lawful (m + n) in
    let refused = more_turns k n m (from_start (u ++ x)) short ∙ is in
    let same = subst (λ o. Same at o (unit (m + n) (from_start (u ++ b.rest)))) refused (p.steady at (from_start (u ++ x)) (from_start (u ++ b.rest)) (same_front at u x b.rest low)) in
    ok_is_no_err (unit (m + n) (from_start (u ++ b.rest))) _ (At at)
    (subst (λ z. unit (m + n) (from_start z) ≡ Ok (trees_of_declarations 0 b.phrase, record { at = length (spelled_unit b.phrase); rest = [] })) b.spells (k.reads (m + n) b.phrase b.is enough))
    (same at refl (omega arith))

stuck_at : (k : Knows) (n at : ℕ) (us : List Token) → length us < n → unit n (from_start us) ≡ Err (At at) → at < length us
    → Begins (take (suc at) us) → ⊥
stuck_at k n at us short is low b =
    let whole = take-append-drop (suc at) us in
    stuck_by k n (suc (length (spelled_unit b.phrase))) at (take (suc at) us) (drop (suc at) us) b
    (subst (λ z. length z < n) (sym whole) short) (omega arith)
    (subst (λ z. unit n (from_start z) ≡ Err (At at)) (sym whole) is)
    (let e : length (take (suc at) us) ≡ suc at = length-take-le (suc at) us low in omega (arith, e))

not_whole : (k : Knows) (n at : ℕ) (us : List Token) → length us < n → unit n (from_start us) ≡ Err (At at) → IsWhole us → ⊥
not_whole k n at us short is w =
    ok_is_no_err (unit n (from_start us)) _ (At at)
    (subst (λ z. unit n (from_start z) ≡ Ok (trees_of_declarations 0 w.phrase, record { at = length (spelled_unit w.phrase); rest = [] })) w.spells
    (k.reads n w.phrase w.is (subst (λ z. length z < n) (sym w.spells) short))) is

-- ---- what an outcome says of the list

pub record IsRead (us : List Token) (ds : List Decl) : Type 0 where
  pub phrase : UnitDerivation
  pub is : IsUnit phrase
  pub spells : spelled_unit phrase ≡ us
  pub trees : ds ≡ trees_of_declarations 0 phrase

-- refused at its token, or at the end: a unit goes on up to there, and none further
pub record IsRefused (us : List Token) (fault : SyntaxError) : Type 0 where
  pub at : ℕ
  pub is : fault ≡ At at
  pub within : at ≤ length us
  pub begins : Begins (take at us)
  pub stuck : IsStuck us at

abbrev pub TellsOf : List Token → ReadResult (List Decl) → Type 0
TellsOf us (Ok p) = IsRead us p.0
TellsOf us (Err fault) = IsRefused us fault

was_read : (k : Knows) (n : ℕ) (us : List Token) (ds : List Decl) (j : Position) → unit n (from_start us) ≡ Ok (ds, j) →
    HasRead AUnit (from_start us) ds j → IsRead us ds
was_read k n us ds j is r = record {
  phrase = r.reads.phrase;
  is = r.reads.is;
  spells = sym r.reads.spells ∙ sym (r.leads.rest ∙ (ap (λ v. r.tokens ++ v) (k.ends n (from_start us) j ds is) ∙ append-nil r.tokens));
  trees = r.reads.trees;
}

front_of : (u x us : List Token) (at : ℕ) → us ≡ u ++ x → at ≡ length u → take at us ≡ u
front_of u x us at e f = ap (λ n. take n us) f ∙ (ap (λ z. take (length u) z) e ∙ take-append_seam u x)

stuck_or_not_whole : (k : Knows) (n at : ℕ) (us : List Token) → length us < n → unit n (from_start us) ≡ Err (At at) →
    at ≤ length us
    → (at < length us) ⊎ (at ≡ length us) → IsStuck us at
stuck_or_not_whole k n at us short is within (inl low) = inl (low, λ b. stuck_at k n at us short is low b)
stuck_or_not_whole k n at us short is within (inr end) = inr (end, λ w. not_whole k n at us short is w)

pub before_or_at : (a b : ℕ) → a ≤ b → (a < b) ⊎ (a ≡ b)
before_or_at a b e = at_least (near_or_far b a)
  where
    at_least : (b ≤ a) ⊎ (a < b) → (a < b) ⊎ (a ≡ b)
    at_least (inl z) = inr (omega arith)
    at_least (inr z) = inl z

was_refused : (k : Knows) (n : ℕ) (us : List Token) (e : SyntaxError) → length us < n → unit n (from_start us) ≡ Err e →
    HasStopped AUnit (from_start us) e → IsRefused us e
was_refused k n us e short is r = record {
  at = r.place.at;
  is = r.is;
  within = low;
  begins = subst (λ z. Begins z) (sym (front_of r.tokens r.place.rest us r.place.at r.leads.rest count)) (begins_before 0 r.tokens r.goes_on);
  stuck = stuck_or_not_whole k n r.place.at us short (is ∙ ap Err r.is) low (before_or_at r.place.at (length us) low);
}
  where
    count : r.place.at ≡ length r.tokens
    count = r.leads.at ∙ zero-add (length r.tokens)

    low : r.place.at ≤ length us
    low = let z : length us ≡ length r.tokens + length r.place.rest = ap length r.leads.rest ∙ length-append r.tokens r.place.rest in omega (arith, z, count)

tells : (k : Knows) (n : ℕ) (us : List Token) → length us < n → (o : ReadResult (List Decl)) → unit n (from_start us) ≡ o →
    Says AUnit (from_start us) o → TellsOf us o
tells k n us short (Ok p) is r = was_read k n us p.0 p.1 is r
tells k n us short (Err e) is r = was_refused k n us e short is r

pub reading_tells : (k : Knows) (n : ℕ) (us : List Token) → length us < n → TellsOf us (unit n (from_start us))
reading_tells k n us short = tells k n us short (unit n (from_start us)) refl ((k.lawful n).says (from_start us))
