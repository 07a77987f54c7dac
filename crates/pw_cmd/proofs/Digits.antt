-- Decimal digits as a number: one more digit.
use Rattle.std.proofs.Common.{◌≡◌, ℕ, ◌+◌, ◌-◌, ◌*◌, ◌^◌, ◌<◌, ◌≤◌, List, true, get_or, length, take, refl, ap, sym, ◌∙◌, arith}
use Rattle.std.specs.List.{list_all}
use Rattle.std.proofs.lemmas.Grind.{pow_more}
use Rattle.std.proofs.lemmas.Bool.Decides.{nat_tests}
use Rattle.std.proofs.lemmas.List.Folds.{list_all_more}
use Rattle.std.proofs.lemmas.List.Sums.{fold_more}
use Rattle.pw_base.specs.Name.{is_from}
use Rattle.pw_cmd.specs.Words.{decimal_value}

-- the bytes are decimal digits
abbrev pub AreDigits : List ℕ → Type 0
AreDigits bytes = list_all (is_from 48 57) bytes ≡ true

-- a byte between two bytes, as a test
from_is : (low high byte : ℕ) → low ≤ byte → byte ≤ high → is_from low high byte ≡ true
from_is low high byte above below = grind (arith, nat_tests)

-- one more digit
pub one_more : (word : List ℕ) (i digit steps : ℕ) → i < length word → digit ≡ get_or word i 0 - 48 → 48 ≤ get_or word i 0
    → get_or word i 0 ≤ 57 → (steps ≡ decimal_value (take i word)) × (steps < 10 ^ i) × AreDigits (take i word)
    → (10 * steps + digit ≡ decimal_value (take (i + 1) word)) × (10 * steps + digit < 10 ^ (i + 1)) × AreDigits (take (i + 1) word)
one_more word i digit steps there is low high so_far = (
  ap (λ n. 10 * n + digit) so_far.0 ∙ ap (λ d. 10 * decimal_value (take i word) + d) is
      ∙ sym (fold_more (λ value digit. 10 * value + (digit - 48)) 0 word i 0 there),
  omega (arith, is, high, so_far.1, pow_more 10 i),
  list_all_more (is_from 48 57) word i 0 there ∙ rw (so_far.2, from_is 48 57 (get_or word i 0) low high) refl,
)
