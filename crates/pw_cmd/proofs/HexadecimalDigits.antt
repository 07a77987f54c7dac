-- A number in hexadecimal has its last digit after those of the number without it.
use Rattle.std.proofs.Common.{◌≡◌, ℕ, zero, suc, ◌/◌, ◌%◌, ◌^◌, ◌<◌, ◌≤◌, Bool, true, false, cond, eqb, List, [], ◌∷◌, ◌++◌, refl, sym, ap, ◌∙◌, append_assoc, eq-eqb, ne_eqb, arith}
use Rattle.std.specs.Fmt.{digit_glyph, digits_onto, digits}

-- the digits of a number, at most so many, before others
abbrev spell : ℕ → ℕ → List ℕ → List ℕ
spell k n after = digits_onto k 16 false n after

-- the last digit
abbrev last : ℕ → ℕ
last n = digit_glyph false (n % 16)

-- what stands after the digits may be put after them
spell-append : (k n : ℕ) (after : List ℕ) → spell k n after ≡ spell k n [] ++ after
spell-append zero n after = refl
spell-append (suc k) n after =
    by (eqb (n / 16) 0) (spell-append k (n / 16) (last n ∷ after) ∙ sym (append_assoc (spell k (n / 16) []) (last n ∷ []) after)
    ∙ ap (λ digits. digits ++ after) (sym (spell-append k (n / 16) (last n ∷ []))))
  where
    by : (one : Bool) → spell k (n / 16) (last n ∷ after) ≡ spell k (n / 16) (last n ∷ []) ++ after
        → cond one (last n ∷ after) (spell k (n / 16) (last n ∷ after)) ≡ cond one (last n ∷ []) (spell k (n / 16) (last n ∷ [])) ++ after
    by true more = refl
    by false more = more

-- one digit
spell_one : (k n : ℕ) (after : List ℕ) → n / 16 ≡ 0 → spell (suc k) n after ≡ last n ∷ after
spell_one k n after one = ap (λ t. cond t (last n ∷ after) (spell k (n / 16) (last n ∷ after))) (eq-eqb (n / 16) 0 one)

-- more than one
spell_more : (k n : ℕ) (after : List ℕ) → (n / 16 ≡ 0 → ⊥) → spell (suc k) n after ≡ spell k (n / 16) (last n ∷ after)
spell_more k n after more = ap (λ t. cond t (last n ∷ after) (spell k (n / 16) (last n ∷ after))) (ne_eqb (n / 16) 0 more)

-- how many digits there may be is no matter where they are enough
spell_enough : (j k n : ℕ) (after : List ℕ) → n < 16 ^ suc j → n < 16 ^ suc k → spell (suc j) n after ≡ spell (suc k) n after
spell_enough zero k n after p q = spell_one zero n after (omega arith) ∙ sym (spell_one k n after (omega arith))
spell_enough (suc j) zero n after p q = spell_one (suc j) n after (omega arith) ∙ sym (spell_one zero n after (omega arith))
spell_enough (suc j) (suc k) n after p q =
    by (eqb (n / 16) 0) (spell_enough j k (n / 16) (last n ∷ after) (omega arith) (omega arith))
  where
    by : (one : Bool) → spell (suc j) (n / 16) (last n ∷ after) ≡ spell (suc k) (n / 16) (last n ∷ after) →
        cond one (last n ∷ after) (spell (suc j) (n / 16) (last n ∷ after))
        ≡ cond one (last n ∷ after) (spell (suc k) (n / 16) (last n ∷ after))
    by true same = refl
    by false same = same

-- the last digit of several
pub hexadecimal_more : (n : ℕ) → 16 ≤ n → n < 2 ^ 64 → digits 16 false n ≡ digits 16 false (n / 16) ++ digit_glyph false (n % 16) ∷ []
unfolding digits
hexadecimal_more n several small =
    spell_more 63 n [] (λ e. omega arith) ∙ spell_enough 62 63 (n / 16) (last n ∷ []) (omega arith) (omega arith)
    ∙ spell-append 64 (n / 16) (last n ∷ [])
