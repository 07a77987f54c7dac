-- Where brackets nest too deep: what is found from left to right is the first such token.
use Rattle.std.proofs.Common.{◌≡◌, refl, ◌∙◌, ap, subst, ℕ, zero, suc, ◌+◌, ◌<◌, ◌≤◌, List, [], ◌∷◌, length, Bool, true, false, if◌then◌else◌, ◌&&◌, nat_le, Option, Some, arith}
use Rattle.std.proofs.lemmas.Bool.{leb-true, le-leb, and_parts}
use Rattle.std.specs.Prelude.{take, drop}
use Rattle.pw_grammar.specs.declared.error.SyntaxError.TheVariants.{TooNested}
use Rattle.pw_grammar.specs.Terminals.{first_sort}
use Rattle.pw_grammar.specs.Faults.{opens_bracket, opens_by, bracket, open_after, IsFault}
use Rattle.pw_grammar.specs.Reading.Limits.{first_nested}
use Rattle.pw_grammar.proofs.Inner.{nothing_is}
use Rattle.pw_grammar.proofs.LateUnits.{same_number}
use Rattle.pw_lex.specs.declared.token.Token.{Token}

-- the token before which d others stand opens a bracket where 200 are open, if n are before the first
pub record IsNested (n d : ℕ) (ts : List Token) : Type 0 where
  pub short : d < length ts
  pub opening : opens_by (first_sort (drop d ts)) ≡ true
  pub deep : 200 ≤ open_after n (take d ts)

-- one such token has this number
abbrev pub IsNestedAt : ℕ → ℕ → List Token → ℕ → Type 0
IsNestedAt at n ts t = (d : ℕ) × (t ≡ at + d) × IsNested n d ts

-- what is found up to this number
abbrev pub FindsBy : ℕ → ℕ → List Token → ℕ → Type 0
FindsBy at n ts t = (found : ℕ) × (first_nested at n ts ≡ Some found) × (found ≤ t)

nested_on : (at n t : ℕ) (x : Token) (ts : List Token) → IsNestedAt (suc at) (bracket n x) ts t → IsNestedAt at n (x ∷ ts) t
unfolding open_after
nested_on at n t x ts f = (
  suc f.0,
  (let e : t ≡ suc at + f.0 = f.1 in omega (arith, e)),
  record { short = (let e : f.0 < length ts = f.2.short in omega (arith, e)); opening = f.2.opening; deep = f.2.deep },
)

nested_here : (at n t : ℕ) (x : Token) (ts : List Token) → opens_bracket x ≡ true → nat_le 200 n ≡ true → t ≡ at →
    IsNestedAt at n (x ∷ ts) t
unfolding open_after
nested_here at n t x ts o far e =
    (0, (omega arith), record { short = omega arith; opening = o; deep = leb-true 200 n far })

nested_with : (at n t : ℕ) (x : Token) (ts : List Token) →
    (first_nested (suc at) (bracket n x) ts ≡ Some t → IsNestedAt (suc at) (bracket n x) ts t)
    → (b : Bool) → (opens_bracket x && nat_le 200 n) ≡ b → (if b then Some at else first_nested (suc at) (bracket n x) ts) ≡ Some t → IsNestedAt at n (x ∷ ts) t
nested_with at n t x ts others true test e =
    let both = and_parts (opens_bracket x) (nat_le 200 n) test in nested_here at n t x ts both.0 both.1 (same_number at t e)
nested_with at n t x ts others false test e = nested_on at n t x ts (others e)

-- what is found opens a bracket where 200 are open
pub nested_at : (ts : List Token) (at n t : ℕ) → first_nested at n ts ≡ Some t → IsNestedAt at n ts t
unfolding first_nested
nested_at [] at n t e = absurd (nothing_is t e)
nested_at (x ∷ ts) at n t e =
    nested_with at n t x ts (nested_at ts (suc at) (bracket n x) t) (opens_bracket x && nat_le 200 n) refl e

finds_by_with : (at d : ℕ) (b : Bool) (o : Option ℕ) → ((found : ℕ) × (o ≡ Some found) × (found ≤ suc at + d))
    → (found : ℕ) × ((if b then Some at else o) ≡ Some found) × (found ≤ at + suc d)
finds_by_with at d true o f = (at, refl, omega arith)
finds_by_with at d false o f = (f.0, f.1, (let e : f.0 ≤ suc at + d = f.2 in omega (arith, e)))

finds_here : (at n : ℕ) (x : Token) (ts : List Token) → opens_bracket x ≡ true → 200 ≤ n → FindsBy at n (x ∷ ts) (at + 0)
unfolding first_nested
finds_here at n x ts o far = (
  at,
  ap (λ b. if b && nat_le 200 n then Some at else first_nested (suc at) (bracket n x) ts) o
      ∙ ap (λ b. if b then Some at else first_nested (suc at) (bracket n x) ts) (le-leb 200 n far),
  omega arith,
)

no_token : (d : ℕ) → d < 0 → ⊥
no_token d e = omega arith

-- where such a token is, one is found that is not after it
pub nested_by : (ts : List Token) (at n d : ℕ) → IsNested n d ts → FindsBy at n ts (at + d)
unfolding first_nested open_after
nested_by [] at n d f = absurd (no_token d f.short)
nested_by (x ∷ ts) at n zero f = finds_here at n x ts f.opening f.deep
nested_by (x ∷ ts) at n (suc d) f =
    finds_by_with at d (opens_bracket x && nat_le 200 n) (first_nested (suc at) (bracket n x) ts)
    (nested_by ts (suc at) (bracket n x) d (record { short = (let e : suc d < suc (length ts) = f.short in omega (arith, e)); opening = f.opening; deep = f.deep }))

-- ---- the fault

pub nested_found : (ts : List Token) (t : ℕ) → first_nested 0 0 ts ≡ Some t → IsFault ts (TooNested t)
nested_found ts t e =
    let f = nested_at ts 0 0 t e in
    subst (λ m. IsFault ts (TooNested m)) (let z : f.0 ≡ t = from_zero f.0 f.1 in z) (f.2.short, f.2.opening, f.2.deep)
  where
    from_zero : (d : ℕ) → t ≡ 0 + d → d ≡ t
    from_zero d e = omega arith

pub nested_first : (ts : List Token) (t : ℕ) → IsFault ts (TooNested t) →
    (found : ℕ) × (first_nested 0 0 ts ≡ Some found) × (found ≤ t)
nested_first ts t fault =
    let f = nested_by ts 0 0 t (record { short = fault.0; opening = fault.1; deep = fault.2 }) in
    (f.0, f.1, from_zero f.0 f.2)
  where
    from_zero : (d : ℕ) → d ≤ 0 + t → d ≤ t
    from_zero d e = omega arith
