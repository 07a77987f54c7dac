-- The value of digits only grows, so what is too large on the way is too large at the end.
use Rattle.std.proofs.Common.{◌≡◌, ℕ, ◌+◌, ◌-◌, ◌*◌, ◌/◌, ◌^◌, ◌<◌, ◌≤◌, [], ◌∷◌, length, drop, get_or, None, sym, ap, arith}
use Rattle.std.proofs.lemmas.List.{at_drop_more}
use Rattle.std.proofs.lemmas.Bool.Decides.{nat_tests}
use Rattle.pw_lex.specs.declared.number.Radix.{Radix}
use Rattle.pw_lex.specs.declared.number.Radix.TheVariants.{Decimal, Hexadecimal}
use Rattle.pw_lex.specs.Bytes.{Text}
use Rattle.pw_lex.specs.Number.{base, digit_value, value_after, value}
use Rattle.pw_lex.specs.Reading.{word_value}

grows : (radix : Radix) (above digit : ℕ) → above ≤ base radix * above + digit
grows Decimal above digit = omega arith
grows Hexadecimal above digit = omega arith

pub le-value_after : (radix : Radix) (above : ℕ) (digits : Text) → above ≤ value_after radix above digits
le-value_after radix above [] = omega arith
le-value_after radix above (digit ∷ digits) =
    omega (arith, grows radix above (digit_value digit), le-value_after radix (base radix * above + digit_value digit) digits)

pub word_value_none : (number : ℕ) → 2 ^ 64 ≤ number → word_value number ≡ None
word_value_none number large = grind (arith, nat_tests)

scaled : (radix : Radix) (above digit : ℕ) → digit < 256 → (2 ^ 64 - 1 - digit) / base radix < above →
    2 ^ 64 ≤ base radix * above + digit
scaled Decimal above digit small large = omega arith
scaled Hexadecimal above digit small large = omega arith

-- where the next digit makes a value too large, the whole value is
pub word_value_none_after : (radix : Radix) (digits : Text) (at above digit : ℕ) → at < length digits →
    digit ≡ digit_value (get_or digits at 0)
    → value_after radix above (drop at digits) ≡ value radix digits → digit < 256 → (2 ^ 64 - 1 - digit) / base radix < above
    → None ≡ word_value (value radix digits)
word_value_none_after radix digits at above digit within digit_is value_is small large =
    let rest = drop (at + 1) digits in
    let step : value_after radix above (drop at digits) ≡ value_after radix (base radix * above + digit_value (get_or digits at 0)) rest = at_drop_more (value_after radix above) digits at 0 within in
    let more = le-value_after radix (base radix * above + digit_value (get_or digits at 0)) rest in
    let wide = scaled radix above digit small large in
    sym (word_value_none (value radix digits) (omega (arith, ap (λ d. base radix * above + d) digit_is, step, value_is, more, wide)))
