-- Numbers in decimal, and the digits that a size of an array has.
use Rattle.std.proofs.Common.{◌≡◌, ℕ, zero, suc, ◌+◌, ◌-◌, ◌*◌, ◌/◌, ◌%◌, ◌^◌, ◌<◌, ◌≤◌, ◌↔◌, true, ◌&&◌, List, [], ◌∷◌, ◌++◌, length, take, drop, get_or, take-suc, pow-suc, refl, sym, ap, subst, ◌∙◌, arith, decimal}
use Rattle.std.specs.Prelude.{nat_lt}
use Rattle.std.specs.List.{list_all}
use Rattle.std.proofs.Math.Seq.{take-length}
use Rattle.std.proofs.lemmas.Fmt.{decimal_step, decimal_by_steps, decimal_nonempty, decimal_digit, decimal_injective, first_decimal, length-decimal-le}
use Rattle.std.proofs.lemmas.List.Folds.{list_all-append}
use Rattle.std.proofs.lemmas.Bool.Decides.{nat_tests}
use Rattle.pw_base.specs.Name.{is_from}
use Rattle.pw_base.specs.TypeText.{IsSize}

-- a number with one digit more has that digit after its own
pub decimal_more : (n digit : ℕ) → 1 ≤ n → n < 2 ^ 32 → digit < 10 → decimal (10 * n + digit) ≡ decimal n ++ (48 + digit) ∷ []
decimal_more n digit some small is_digit =
    let leading : (10 * n + digit) / 10 ≡ n = omega arith in
    let last : (10 * n + digit) % 10 ≡ digit = omega arith in rw (decimal_step (10 * n + digit) (omega arith) (omega arith), leading, last)

-- a number of at most five digits is below 100000
pub at_most_five : (more n : ℕ) → more < 5 → n < 10 ^ (more + 1) → n < 100000
at_most_five zero n few below = omega arith
at_most_five (suc zero) n few below = omega arith
at_most_five (suc (suc zero)) n few below = omega arith
at_most_five (suc (suc (suc zero))) n few below = omega arith
at_most_five (suc (suc (suc (suc zero)))) n few below = omega arith
at_most_five (suc (suc (suc (suc (suc more))))) n few below = absurd (omega arith)

-- a number in decimal has digits alone
decimal_digits : (n : ℕ) → n < 2 ^ 64 → list_all (is_from 48 57) (decimal n) ≡ true
decimal_digits = decimal_by_steps (λ n digits. list_all (is_from 48 57) digits ≡ true) (λ n small. grind (arith, nat_tests))
    (λ n digits large all. list_all-append (is_from 48 57) digits ((48 + n % 10) ∷ []) ∙ grind (arith, nat_tests))

-- a size is spelled by one digit from 1 to 9 and at most four more
pub size_is_numeral : (first : ℕ) (more : List ℕ) → IsSize (first ∷ more) →
    (is_from 49 57 first && nat_lt (length more) 5 && list_all (is_from 48 57) more) ≡ true
size_is_numeral first more is_size =
    let small : is_size.size < 2 ^ 64 = omega (arith, is_size.within) in
    let leads : 48 < first = subst (λ digits. 48 < get_or digits 0 0) (sym is_size.spelled) (first_decimal is_size.size is_size.some small) in
    let digits : list_all (is_from 48 57) (first ∷ more) ≡ true = subst (λ ds. list_all (is_from 48 57) ds ≡ true) (sym is_size.spelled) (decimal_digits is_size.size small) in
    let few : length (first ∷ more) ≤ 5 = subst (λ ds. length ds ≤ 5) (sym is_size.spelled) (length-decimal-le 5 is_size.size (omega arith) (omega (arith, is_size.within)) small) in
    grind (arith, nat_tests)

-- and by no fewer
pub size_is_some : (digits : List ℕ) → length digits < 1 → IsSize digits → ⊥
size_is_some digits few is_size =
    let some : 0 < length digits = subst (λ ds. 0 < length ds) (sym is_size.spelled) (decimal_nonempty is_size.size (omega (arith, is_size.within))) in omega (arith, few, some)

-- some digits are the first and the rest
pub first_and_rest : (digits : List ℕ) → 1 ≤ length digits → digits ≡ get_or digits 0 0 ∷ take (length digits - 1) (drop 1 digits)
first_and_rest [] some = absurd (omega arith)
first_and_rest (digit ∷ digits) some =
    let rest : length (digit ∷ digits) - 1 ≡ length digits = omega arith in rw (rest, take-length digits) refl

-- what the test of a numeral says
pub numeral_parts : (first : ℕ) (more : List ℕ) →
    (is_from 49 57 first && nat_lt (length more) 5 && list_all (is_from 48 57) more) ≡ true →
    (49 ≤ first) × (first ≤ 57) × (length more < 5) × (list_all (is_from 48 57) more ≡ true)
numeral_parts first more is_numeral = grind (arith, nat_tests)

-- each of some digits is one
digit_at : (digits : List ℕ) (i : ℕ) → list_all (is_from 48 57) digits ≡ true → i < length digits →
    (48 ≤ get_or digits i 0) × (get_or digits i 0 ≤ 57)
digit_at [] i all within = absurd (omega arith)
digit_at (digit ∷ digits) zero all within = grind (arith, nat_tests)
digit_at (digit ∷ digits) (suc i) all within = digit_at digits i (grind (arith, nat_tests)) (omega arith)

-- the digit at a place, after the number of those before it
pub numeral_step : (first : ℕ) (more : List ℕ) (i n digit : ℕ) → length more < 5 → list_all (is_from 48 57) more ≡ true →
    i < length more → digit ≡ get_or more i 0 - 48
    → (decimal n ≡ first ∷ take i more) × (1 ≤ n) × (n < 10 ^ (i + 1))
    → (decimal (10 * n + digit) ≡ first ∷ take (i + 1) more) × (1 ≤ 10 * n + digit) × (10 * n + digit < 10 ^ (i + 1 + 1))
numeral_step first more i n digit few all within is_digit so_far =
    let byte = digit_at more i all within in
    let small : n < 100000 = at_most_five i n (omega arith) so_far.2 in
    let spelled : 48 + digit ≡ get_or more i 0 = omega (arith, byte.0, is_digit) in
    let one_more : take (i + 1) more ≡ take i more ++ get_or more i 0 ∷ [] = let next : i + 1 ≡ suc i = omega arith in rw next (take-suc more i 0 within) in (
      decimal_more n digit so_far.1 (omega arith) (omega (arith, byte.1, is_digit)) ∙ rw (so_far.0, one_more, spelled) refl,
      omega (arith, so_far.1),
      let next : i + 1 + 1 ≡ suc (i + 1) = omega arith in rw next (omega (arith, so_far.2, byte.1, is_digit, pow-suc 10 (i + 1))),
    )

-- the first digit alone
pub numeral_start : (first n : ℕ) → 49 ≤ first → first ≤ 57 → n ≡ first - 48 → (decimal n ≡ first ∷ []) × (1 ≤ n) × (n < 10)
numeral_start first n low high is_n =
    let spelled : 48 + n ≡ first = omega (arith, is_n) in (decimal_digit n (omega arith) ∙ ap (λ d. d ∷ []) spelled, omega (arith, is_n), omega (arith, is_n))

-- the number that the digits spell says whether they are a size
pub size_of_number : (digits : List ℕ) (n : ℕ) → n < 2 ^ 64 → decimal n ≡ digits → 1 ≤ n → (n ≤ 65536) ↔ IsSize digits
size_of_number digits n small spelled some = (
  λ within. record { size = n; spelled = sym spelled; some = some; within = within },
  λ is_size. omega (arith, is_size.within, decimal_injective n is_size.size small (omega (arith, is_size.within)) (spelled ∙ is_size.spelled)),
)
