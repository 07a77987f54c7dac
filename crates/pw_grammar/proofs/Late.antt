-- Where a function is too long: what the walk over its tokens finds is what its derivation says.
use Rattle.std.proofs.Common.{◌≡◌, refl, sym, ◌∙◌, ap, subst, ℕ, suc, ◌+◌, ◌-◌, ◌<◌, ◌≤◌, List, [], ◌∷◌, ◌++◌, length, ◌⊎◌, inl, inr, Bool, true, false, if◌then◌else◌, ◌&&◌, ◌||◌, ◌==◌, nat_le, Some, arith}
use Rattle.std.proofs.lemmas.List.{append_assoc, length-append}
use Rattle.std.proofs.lemmas.Bool.{le-leb, lt-leb}
use Rattle.std.proofs.Math.Bool.{and-false}
use Rattle.std.proofs.Math.Nat.{add_assoc}
use Rattle.std.proofs.Math.Dec.{eqb-suc-zero}
use Rattle.pw_grammar.proofs.Lawful.{near_or_far}
use Rattle.pw_grammar.specs.declared.sort.Sort.{Sort}
use Rattle.pw_grammar.specs.declared.sort.Sort.TheVariants as s
use Rattle.pw_grammar.specs.Terminals.{sort, is_same}
use Rattle.pw_grammar.specs.Faults.{closes_bracket, opens_by, closes_by, bracket}
use Rattle.pw_grammar.specs.Reading.Limits.{Walk, is_inside, is_late, anew, step, first_late}
use Rattle.pw_lex.specs.declared.token.Token.{Token}

-- inside n + 1 brackets of a declaration that began at `start`
abbrev pub within_brackets : ℕ → ℕ → ℕ → Bool → Walk
within_brackets at n start body = record { at = at; depth = suc n; start = start; in_body = body; behind_list = false }

-- a symbol that is no bracket
abbrev pub IsPlain : Sort → Type 0
IsPlain x = (opens_by x ≡ false) × (closes_by x ≡ false)

-- tokens that leave the brackets round them as they are
pub record IsInner (u : List Token) : Type 0 where
  -- outside a body, or early enough in it, the walk passes them
  pub passes : (at n start : ℕ) (body : Bool) (v : List Token) → (body ≡ false) ⊎ (at + length u ≤ start + 8192)
      → first_late (within_brackets at n start body) (u ++ v) ≡ first_late (within_brackets (at + length u) n start body) v
  -- else it finds the first after 8,192 others
  pub finds : (at n start : ℕ) (v : List Token) → at ≤ start + 8192 → start + 8192 < at + length u
      → first_late (within_brackets at n start true) (u ++ v) ≡ Some (start + 8192)

pub inner_nil : IsInner []
inner_nil = record {
  passes = λ at n start body v early. ap (λ m. first_late (within_brackets m n start body) v) (let e : at ≡ at + 0 = omega arith in e);
  finds = λ at n start v low high. absurd (nothing_between at start low high);
}
  where
    nothing_between : (at start : ℕ) → at ≤ start + 8192 → start + 8192 < at + 0 → ⊥
    nothing_between at start low high = omega arith

never : (a b : Bool) → (a && b && false) ≡ false
never a b = and-false _

no_brace : (body a b : Bool) → (body || (a && b && false)) ≡ body
no_brace true a b = refl
no_brace false a b = never a b

-- one token in brackets, the brackets after it being at least one
moves_by : (at d m start : ℕ) (body a b c x : Bool) → d ≡ suc m
    → (if (d == 0) && x then anew (suc at) else (record { at = suc at; depth = d; start = start; in_body = body || (a && b && false); behind_list = c && (d == 0) }))
    ≡ within_brackets (suc at) m start body
moves_by at d m start body a b c x e =
    ap (λ d. if (d == 0) && x then anew (suc at) else (record { at = suc at; depth = d; start = start; in_body = body || (a && b && false); behind_list = c && (d == 0) })) e
    ∙ (ap (λ z. if z && x then anew (suc at) else (record { at = suc at; depth = suc m; start = start; in_body = body || (a && b && false); behind_list = c && z })) (eqb-suc-zero m)
    ∙ (ap (λ y. record { at = suc at; depth = suc m; start = start; in_body = y; behind_list = c && false }) (no_brace body a b)
    ∙ ap (λ y. record { at = suc at; depth = suc m; start = start; in_body = body; behind_list = y }) (and-false c)))

moves : (t : Token) (at n m start : ℕ) (body : Bool) → bracket (suc n) t ≡ suc m
    → step (within_brackets at n start body) t ≡ within_brackets (suc at) m start body
unfolding step
moves t at n m start body e = moves_by at (bracket (suc n) t) m start body (is_same (sort t) s.LeftBrace) (suc n == 0) (is_same (sort t) s.RightParen) (is_same (sort t) s.Semicolon || (is_same (sort t) s.RightBrace && body)) e

outside_token : (body a b x : Bool) → body ≡ false → ((body || (a && b && false)) && x) ≡ false
outside_token body a b x e = ap (λ y. y && x) (no_brace body a b ∙ e)

early_enough : (y : Bool) (start at : ℕ) → suc at ≤ start + 8192 → (y && nat_le (start + 8192) at) ≡ false
early_enough y start at e = ap (λ z. y && z) (lt-leb (start + 8192) at e) ∙ and-false y

early_token : (t : Token) (at n start : ℕ) (body : Bool) → (body ≡ false) ⊎ (suc at ≤ start + 8192) →
    is_late (within_brackets at n start body) t ≡ false
early_token t at n start body (inl e) = outside_token body (is_same (sort t) s.LeftBrace) (suc n == 0) (nat_le (start + 8192) at) e
early_token t at n start body (inr e) = early_enough (is_inside (within_brackets at n start body) t) start at e

late_token : (t : Token) (at n start : ℕ) → at ≡ start + 8192 → is_late (within_brackets at n start true) t ≡ true
late_token t at n start e = le-leb (start + 8192) at (omega arith)

pub passes_token : (t : Token) (at n m start : ℕ) (body : Bool) (v : List Token) → bracket (suc n) t ≡ suc m →
    (body ≡ false) ⊎ (suc at ≤ start + 8192)
    → first_late (within_brackets at n start body) (t ∷ v) ≡ first_late (within_brackets (suc at) m start body) v
unfolding first_late
passes_token t at n m start body v e early =
    ap (λ b. if b then Some at else first_late (step (within_brackets at n start body) t) v) (early_token t at n start body early)
    ∙ ap (λ w. first_late w v) (moves t at n m start body e)

pub finds_token : (t : Token) (at n start : ℕ) (v : List Token) → at ≡ start + 8192 →
    first_late (within_brackets at n start true) (t ∷ v) ≡ Some (start + 8192)
unfolding first_late
finds_token t at n start v e =
    ap (λ b. if b then Some at else first_late (step (within_brackets at n start true) t) v) (late_token t at n start e) ∙ ap Some e

early_front : (at m n start : ℕ) (body : Bool) → (body ≡ false) ⊎ (at + (m + n) ≤ start + 8192) →
    (body ≡ false) ⊎ (at + m ≤ start + 8192)
early_front at m n start body (inl e) = inl e
early_front at m n start body (inr e) = inr (omega arith)

early_back : (at m n start : ℕ) (body : Bool) → (body ≡ false) ⊎ (at + (m + n) ≤ start + 8192) →
    (body ≡ false) ⊎ ((at + m) + n ≤ start + 8192)
early_back at m n start body (inl e) = inl e
early_back at m n start body (inr e) = inr (omega arith)

both_passes : (u v w : List Token) → IsInner u → IsInner v → (at n start : ℕ) (body : Bool) →
    (body ≡ false) ⊎ (at + (length u + length v) ≤ start + 8192)
    → first_late (within_brackets at n start body) (u ++ (v ++ w)) ≡ first_late (within_brackets (at + length u + length v) n start body) w
both_passes u v w a b at n start body early =
    a.passes at n start body (v ++ w) (early_front at (length u) (length v) start body early)
    ∙ b.passes (at + length u) n start body w (early_back at (length u) (length v) start body early)

both_finds : (u v w : List Token) → IsInner u → IsInner v → (at n start : ℕ) → at ≤ start + 8192 →
    start + 8192 < at + (length u + length v)
    → (at + length u ≤ start + 8192) ⊎ (start + 8192 < at + length u)
    → first_late (within_brackets at n start true) (u ++ (v ++ w)) ≡ Some (start + 8192)
both_finds u v w a b at n start low high (inl e) =
    a.passes at n start true (v ++ w) (inr e) ∙ b.finds (at + length u) n start w e (omega arith)
both_finds u v w a b at n start low high (inr e) = a.finds at n start (v ++ w) low e

pub inner_both : (u v : List Token) → IsInner u → IsInner v → IsInner (u ++ v)
inner_both u v a b = record {
  passes = λ at n start body w early.
      ap (λ z. first_late (within_brackets at n start body) z) (append_assoc u v w)
      ∙ (both_passes u v w a b at n start body (subst (λ k. (body ≡ false) ⊎ (at + k ≤ start + 8192)) (length-append u v) early)
      ∙ ap (λ k. first_late (within_brackets k n start body) w) (add_assoc at (length u) (length v) ∙ ap (λ k. at + k) (sym (length-append u v))));
  finds = λ at n start w low high.
      ap (λ z. first_late (within_brackets at n start true) z) (append_assoc u v w)
      ∙ both_finds u v w a b at n start low (subst (λ k. start + 8192 < at + k) (length-append u v) high) (near_or_far (at + length u) (start + 8192));
}

-- a token that is no bracket
plain_bracket : (t : Token) (n : ℕ) → IsPlain (sort t) → bracket n t ≡ n
plain_bracket t n (o, c) = ap (λ b. if b then suc n else (if closes_bracket t then n - 1 else n)) o ∙ ap (λ b. if b then n - 1 else n) c

pub inner_token : (t : Token) → IsPlain (sort t) → IsInner (t ∷ [])
inner_token t plain = record {
  passes = λ at n start body v early.
      passes_token t at n n start body v (plain_bracket t (suc n) plain) (early_one at start body early)
      ∙ ap (λ k. first_late (within_brackets k n start body) v) (one_more at);
  finds = λ at n start v low high. finds_token t at n start v (just at start low high);
}
  where
    one_more : (at : ℕ) → suc at ≡ at + 1
    one_more at = omega arith

    just : (at start : ℕ) → at ≤ start + 8192 → start + 8192 < at + 1 → at ≡ start + 8192
    just at start low high = omega arith

    early_one : (at start : ℕ) (body : Bool) → (body ≡ false) ⊎ (at + 1 ≤ start + 8192) →
        (body ≡ false) ⊎ (suc at ≤ start + 8192)
    early_one at start body (inl e) = inl e
    early_one at start body (inr e) = inr (omega arith)

-- ---- the tokens of an expression and of a statement, in brackets

pub inner_cons : (t : Token) (u : List Token) → IsPlain (sort t) → IsInner u → IsInner (t ∷ u)
inner_cons t u plain inner = inner_both (t ∷ []) u (inner_token t plain) inner

opened : (t : Token) (n : ℕ) → opens_by (sort t) ≡ true → bracket n t ≡ suc n
opened t n o = ap (λ b. if b then suc n else (if closes_bracket t then n - 1 else n)) o

closed : (t : Token) (n : ℕ) → opens_by (sort t) ≡ false → closes_by (sort t) ≡ true → bracket (suc n) t ≡ n
closed t n o c = ap (λ b. if b then suc (suc n) else (if closes_bracket t then suc n - 1 else suc n)) o ∙ (ap (λ b. if b then suc n - 1 else suc n) c ∙ less n)
  where
    less : (n : ℕ) → suc n - 1 ≡ n
    less n = omega arith

abbrev pub Opens : Token → Type 0
Opens t = opens_by (sort t) ≡ true

abbrev pub Closes : Token → Type 0
Closes t = (opens_by (sort t) ≡ false) × (closes_by (sort t) ≡ true)

-- brackets round such tokens
brackets_pass : (o c : Token) (u v : List Token) → Opens o → Closes c → IsInner u → (at n start : ℕ) (body : Bool)
    → (body ≡ false) ⊎ (suc (suc at + length u) ≤ start + 8192)
    → first_late (within_brackets at n start body) (o ∷ (u ++ c ∷ v)) ≡ first_late (within_brackets (suc (suc at + length u)) n start body) v
brackets_pass o c u v opens closes inner at n start body early =
    passes_token o at n (suc n) start body (u ++ c ∷ v) (opened o (suc n) opens) (first_early early)
    ∙ (inner.passes (suc at) (suc n) start body (c ∷ v) (middle_early early)
    ∙ passes_token c (suc at + length u) (suc n) n start body v (closed c (suc n) closes.0 closes.1) early)
  where
    first_early : (body ≡ false) ⊎ (suc (suc at + length u) ≤ start + 8192) → (body ≡ false) ⊎ (suc at ≤ start + 8192)
    first_early (inl e) = inl e
    first_early (inr e) = inr (omega arith)

    middle_early : (body ≡ false) ⊎ (suc (suc at + length u) ≤ start + 8192) →
        (body ≡ false) ⊎ (suc at + length u ≤ start + 8192)
    middle_early (inl e) = inl e
    middle_early (inr e) = inr (omega arith)

behind_opening : (o c : Token) (u v : List Token) → IsInner u → Closes c → (at n start : ℕ)
    → suc at ≤ start + 8192 → start + 8192 < suc (suc at + length u) → (suc at + length u ≤ start + 8192) ⊎ (start + 8192 < suc at + length u)
    → first_late (within_brackets (suc at) (suc n) start true) (u ++ c ∷ v) ≡ Some (start + 8192)
behind_opening o c u v inner closes at n start low high (inl e) =
    inner.passes (suc at) (suc n) start true (c ∷ v) (inr e)
    ∙ finds_token c (suc at + length u) (suc n) start v (let z : suc at + length u ≡ start + 8192 = omega arith in z)
behind_opening o c u v inner closes at n start low high (inr e) = inner.finds (suc at) (suc n) start (c ∷ v) low e

brackets_find : (o c : Token) (u v : List Token) → Opens o → Closes c → IsInner u → (at n start : ℕ)
    → at ≤ start + 8192 → start + 8192 < suc (suc at + length u) → (suc at ≤ start + 8192) ⊎ (start + 8192 < suc at)
    → first_late (within_brackets at n start true) (o ∷ (u ++ c ∷ v)) ≡ Some (start + 8192)
brackets_find o c u v opens closes inner at n start low high (inl e) =
    passes_token o at n (suc n) start true (u ++ c ∷ v) (opened o (suc n) opens) (inr e)
    ∙ behind_opening o c u v inner closes at n start e high (near_or_far (suc at + length u) (start + 8192))
brackets_find o c u v opens closes inner at n start low high (inr e) =
    finds_token o at n start (u ++ c ∷ v) (let z : at ≡ start + 8192 = omega arith in z)

bracket_count : (at : ℕ) (o c : Token) (u : List Token) → at + length (o ∷ (u ++ c ∷ [])) ≡ suc (suc at + length u)
bracket_count at o c u = bracket_sum at (length u) (length (u ++ c ∷ [])) (length-append u (c ∷ []))
  where
    bracket_sum : (at n m : ℕ) → m ≡ n + 1 → at + suc m ≡ suc (suc at + n)
    bracket_sum at n m e = omega arith

pub inner_brackets : (o c : Token) (u : List Token) → Opens o → Closes c → IsInner u → IsInner (o ∷ (u ++ c ∷ []))
inner_brackets o c u opens closes inner = record {
  passes = λ at n start body v early.
      ap (λ z. first_late (within_brackets at n start body) (o ∷ z)) (append_assoc u (c ∷ []) v)
      ∙ (brackets_pass o c u v opens closes inner at n start body (subst (λ k. (body ≡ false) ⊎ (k ≤ start + 8192)) (bracket_count at o c u) early)
      ∙ ap (λ k. first_late (within_brackets k n start body) v) (sym (bracket_count at o c u)));
  finds = λ at n start v low high.
      ap (λ z. first_late (within_brackets at n start true) (o ∷ z)) (append_assoc u (c ∷ []) v)
      ∙ brackets_find o c u v opens closes inner at n start low (subst (λ k. start + 8192 < k) (bracket_count at o c u) high) (near_or_far (suc at) (start + 8192));
}
