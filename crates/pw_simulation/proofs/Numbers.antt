-- The arithmetic of loading a number: its upper part, its lower part, its rest, and what they come to as bits.
use Rattle.std.proofs.Common.{◌≡◌, ℕ, suc, ◌+◌, ◌-◌, ◌*◌, ◌/◌, ◌%◌, ◌^◌, ◌<◌, ◌≤◌, Bool, true, false, ltb, refl, ◌∙◌, ap, arith, pos, negsuc}
use Rattle.std.specs.Prelude.{ℤ, ◌+ℤ◌, ◌-ℤ◌, ◌*ℤ◌, nat_lt}
use Rattle.std.specs.Int.{int_shr, int_wrap, cast_signed, w32, w64}
use Rattle.std.proofs.lemmas.Int.{ints, int_wrap_fits}
use Rattle.std.proofs.lemmas.Bool.Decides.{nat_tests}
use Rattle.pw_hart.specs.Bits.{bits64}
use Rattle.pw_hart.specs.Integer.{add, sll}
use Rattle.pw_hart.specs.Word.{addw}
use Rattle.pw_hart.specs.Exec as machine
use Rattle.pw_code.specs.LoadImmediate.{is_within, upper, lower, upper_immediate, rest}

-- ---- the upper part

rounded_small : (n : ℕ) → n < 2048 → negsuc n +ℤ pos 2048 ≡ pos (2047 - n)
rounded_small n h = omega (arith, ints)

rounded_negsuc : (n : ℕ) → 2048 ≤ n → negsuc n +ℤ pos 2048 ≡ negsuc (n - 2048)
rounded_negsuc n h = omega (arith, ints)

pub upper_of_small : (n : ℕ) → n < 2048 → upper (negsuc n) ≡ pos 0
upper_of_small n h = ap (λ z. int_shr z 12) (rounded_small n h) ∙ ap pos (let e : (2047 - n) / 4096 ≡ 0 = omega arith in e)

pub upper_of_negsuc : (n : ℕ) → 2048 ≤ n → upper (negsuc n) ≡ negsuc ((n - 2048) / 4096)
upper_of_negsuc n h = ap (λ z. int_shr z 12) (rounded_negsuc n h)

-- ---- the lower part

pub lower_of_pos : (n : ℕ) → lower (pos n) ≡ pos ((n + 2048) % 4096) -ℤ pos 2048
lower_of_pos n = omega (arith, ints)

pub lower_of_small : (n : ℕ) → n < 2048 → lower (negsuc n) ≡ pos (2047 - n) -ℤ pos 2048
lower_of_small n h = ap (λ u. negsuc n -ℤ (pos 4096 *ℤ u)) (upper_of_small n h) ∙ omega (arith, ints)

pub lower_of_negsuc : (n : ℕ) → 2048 ≤ n → lower (negsuc n) ≡ pos (4095 - (n - 2048) % 4096) -ℤ pos 2048
lower_of_negsuc n h = ap (λ u. negsuc n -ℤ (pos 4096 *ℤ u)) (upper_of_negsuc n h) ∙ omega (arith, ints)

bits_below : (r : ℕ) (t : Bool) → nat_lt r 2048 ≡ t → r < 4096 → bits64 (pos r -ℤ pos 2048) ≡ (r + (2 ^ 64 - 2048)) % 2 ^ 64
bits_below r true test h =
    let below : r < 2048 = grind (arith, nat_tests) in
    let e : pos r -ℤ pos 2048 ≡ negsuc (2047 - r) = omega (arith, ints) in ap bits64 e ∙ omega arith
bits_below r false test h =
    let above : 2048 ≤ r = grind (arith, nat_tests) in
    let e : pos r -ℤ pos 2048 ≡ pos (r - 2048) = omega (arith, ints) in ap bits64 e ∙ omega arith

pub low_bits : (r : ℕ) → r < 4096 → bits64 (pos r -ℤ pos 2048) ≡ (r + (2 ^ 64 - 2048)) % 2 ^ 64
low_bits r h = bits_below r (nat_lt r 2048) refl h

-- ---- the rest

rest_of_pos : (n : ℕ) → n < 2 ^ 63 - 2048 → rest (pos n) ≡ pos ((n + 2048) / 4096)
rest_of_pos n h =
    let d : pos n -ℤ lower (pos n) ≡ pos (4096 * ((n + 2048) / 4096)) = omega (arith, ints, lower_of_pos n) in
    ap (λ z. int_shr (int_wrap w64 z) 12) d
    ∙ ap (λ z. int_shr z 12) (int_wrap_fits w64 (pos (4096 * ((n + 2048) / 4096))) (record { sfits = omega arith }))
    ∙ ap pos (let e : 4096 * ((n + 2048) / 4096) / 4096 ≡ (n + 2048) / 4096 = omega arith in e)

rest_of_greatest : (n : ℕ) → 2 ^ 63 - 2048 ≤ n → n < 2 ^ 63 → rest (pos n) ≡ negsuc (2 ^ 51 - 1)
unfolding int_wrap
rest_of_greatest n from h =
    let d : pos n -ℤ lower (pos n) ≡ pos (2 ^ 63) = omega (arith, ints, lower_of_pos n) in ap (λ z. int_shr (int_wrap w64 z) 12) d

rest_of_small : (n : ℕ) → n < 2048 → rest (negsuc n) ≡ pos 0
unfolding int_wrap
rest_of_small n h =
    let d : negsuc n -ℤ lower (negsuc n) ≡ pos 0 = omega (arith, ints, lower_of_small n h) in ap (λ z. int_shr (int_wrap w64 z) 12) d

rest_of_negsuc : (n : ℕ) → 2048 ≤ n → n < 2 ^ 63 → rest (negsuc n) ≡ negsuc ((n - 2048) / 4096)
rest_of_negsuc n from h =
    let d : negsuc n -ℤ lower (negsuc n) ≡ negsuc (4096 * ((n - 2048) / 4096) + 4095) = omega (arith, ints, lower_of_negsuc n from) in
    ap (λ z. int_shr (int_wrap w64 z) 12) d
    ∙ ap (λ z. int_shr z 12) (int_wrap_fits w64 (negsuc (4096 * ((n - 2048) / 4096) + 4095)) (record { sfits = omega arith }))
    ∙ ap negsuc (let e : (4096 * ((n - 2048) / 4096) + 4095) / 4096 ≡ (n - 2048) / 4096 = omega arith in e)

-- ---- the rest, shifted, and the lower part give the number

by_pos : (n : ℕ) (t : Bool) → nat_lt n (2 ^ 63 - 2048) ≡ t → n < 2 ^ 63 → add (sll (bits64 (rest (pos n))) 12) (bits64 (lower (pos n))) ≡ n
by_pos n true test h =
    let small : n < 2 ^ 63 - 2048 = grind (arith, nat_tests) in
    rw (rest_of_pos n small, lower_of_pos n, low_bits ((n + 2048) % 4096) (omega arith)) (omega arith)
by_pos n false test h =
    let great : 2 ^ 63 - 2048 ≤ n = grind (arith, nat_tests) in
    rw (rest_of_greatest n great h, lower_of_pos n, low_bits ((n + 2048) % 4096) (omega arith)) (omega arith)

by_negsuc : (n : ℕ) (t : Bool) → nat_lt n 2048 ≡ t → n < 2 ^ 63 → add (sll (bits64 (rest (negsuc n))) 12) (bits64 (lower (negsuc n))) ≡ 2 ^ 64 - suc n
by_negsuc n true test h =
    let small : n < 2048 = grind (arith, nat_tests) in
    rw (rest_of_small n small, lower_of_small n small, low_bits (2047 - n) (omega arith)) (omega arith)
by_negsuc n false test h =
    let great : 2048 ≤ n = grind (arith, nat_tests) in
    rw (rest_of_negsuc n great h, lower_of_negsuc n great, low_bits (4095 - (n - 2048) % 4096) (omega arith)) (omega arith)

-- how large a number is, as bits see it: n and -(n + 1) are alike
abbrev pub magnitude : ℤ → ℕ
magnitude (pos n) = n
magnitude (negsuc n) = n

pub rest_and_lower : (v : ℤ) → magnitude v < 2 ^ 63 → add (sll (bits64 (rest v)) 12) (bits64 (lower v)) ≡ bits64 v
rest_and_lower (pos n) h = by_pos n (nat_lt n (2 ^ 63 - 2048)) refl h
rest_and_lower (negsuc n) h = by_negsuc n (nat_lt n 2048) refl h

-- the rest is smaller by twelve bits
pub rest_is_smaller : (v : ℤ) (most : ℕ) → magnitude v < 2 ^ 63 → magnitude v ≤ 4096 * most → magnitude (rest v) ≤ most
rest_is_smaller (pos n) most h few = of_pos (nat_lt n (2 ^ 63 - 2048)) refl
  where
    of_pos : (t : Bool) → nat_lt n (2 ^ 63 - 2048) ≡ t → magnitude (rest (pos n)) ≤ most
    of_pos true test = let small : n < 2 ^ 63 - 2048 = grind (arith, nat_tests) in rw (rest_of_pos n small) (omega arith)
    of_pos false test = let great : 2 ^ 63 - 2048 ≤ n = grind (arith, nat_tests) in rw (rest_of_greatest n great h) (omega arith)
rest_is_smaller (negsuc n) most h few = of_negsuc (nat_lt n 2048) refl
  where
    of_negsuc : (t : Bool) → nat_lt n 2048 ≡ t → magnitude (rest (negsuc n)) ≤ most
    of_negsuc true test = let small : n < 2048 = grind (arith, nat_tests) in rw (rest_of_small n small) (omega arith)
    of_negsuc false test = let great : 2048 ≤ n = grind (arith, nat_tests) in rw (rest_of_negsuc n great h) (omega arith)

-- ---- two words of 32 bits

signed_of_low : (m : ℕ) → m < 2 ^ 31 → bits64 (cast_signed w32 m) ≡ m
signed_of_low m h = let test : ltb m (2 ^ 31) ≡ true = grind (arith, nat_tests) in rw test refl

signed_of_high : (m : ℕ) → 2 ^ 31 ≤ m → m < 2 ^ 32 → bits64 (cast_signed w32 m) ≡ m + (2 ^ 64 - 2 ^ 32)
signed_of_high m from h = let test : ltb m (2 ^ 31) ≡ false = grind (arith, nat_tests) in rw test (omega arith)

two_of_pos : (n : ℕ) (t : Bool) → nat_lt ((n + 2048) / 4096) (2 ^ 19) ≡ t → n < 2 ^ 31 → addw (machine.upper (upper_immediate (pos n))) (bits64 (lower (pos n))) ≡ n
two_of_pos n true test h =
    let sum : ((n + 2048) / 4096 * 2 ^ 12 % 2 ^ 64 + ((n + 2048) % 4096 + (2 ^ 64 - 2048)) % 2 ^ 64) % 2 ^ 32 ≡ n = omega arith in
    rw (lower_of_pos n, test, low_bits ((n + 2048) % 4096) (omega arith), sum) (signed_of_low n h)
two_of_pos n false test h =
    let q : (n + 2048) / 4096 ≡ 2 ^ 19 = grind (arith, nat_tests) in
    let sum : (bits64 (pos (2 ^ 19) -ℤ pos (2 ^ 20)) * 2 ^ 12 % 2 ^ 64 + ((n + 2048) % 4096 + (2 ^ 64 - 2048)) % 2 ^ 64) % 2 ^ 32 ≡ n = omega arith in
    rw (lower_of_pos n, test, q, low_bits ((n + 2048) % 4096) (omega arith), sum) (signed_of_low n h)

two_of_negsuc : (n : ℕ) (t : Bool) → nat_lt n 2048 ≡ t → n < 2 ^ 31 → addw (machine.upper (upper_immediate (negsuc n))) (bits64 (lower (negsuc n))) ≡ 2 ^ 64 - suc n
two_of_negsuc n true test h =
    let small : n < 2048 = grind (arith, nat_tests) in
    let sum : (0 * 2 ^ 12 % 2 ^ 64 + (2047 - n + (2 ^ 64 - 2048)) % 2 ^ 64) % 2 ^ 32 ≡ 2 ^ 32 - suc n = omega arith in
    rw (lower_of_small n small, upper_of_small n small, low_bits (2047 - n) (omega arith), sum) (signed_of_high (2 ^ 32 - suc n) (omega arith) (omega arith) ∙ omega arith)
two_of_negsuc n false test h =
    let great : 2048 ≤ n = grind (arith, nat_tests) in
    let sum : ((2 ^ 64 - suc ((n - 2048) / 4096)) * 2 ^ 12 % 2 ^ 64 + (4095 - (n - 2048) % 4096 + (2 ^ 64 - 2048)) % 2 ^ 64) % 2 ^ 32 ≡ 2 ^ 32 - suc n = omega arith in
    rw (lower_of_negsuc n great, upper_of_negsuc n great, low_bits (4095 - (n - 2048) % 4096) (omega arith), sum) (signed_of_high (2 ^ 32 - suc n) (omega arith) (omega arith) ∙ omega arith)

pub upper_and_lower : (v : ℤ) → magnitude v < 2 ^ 31 → addw (machine.upper (upper_immediate v)) (bits64 (lower v)) ≡ bits64 v
upper_and_lower (pos n) h = two_of_pos n (nat_lt ((n + 2048) / 4096) (2 ^ 19)) refl h
upper_and_lower (negsuc n) h = two_of_negsuc n (nat_lt n 2048) refl h

-- a number of 64 bits is what its signed reading stands for
pub signed_magnitude : (v : ℕ) → v < 2 ^ 64 → magnitude (cast_signed w64 v) < 2 ^ 63
signed_magnitude v h = by_sign (ltb v (2 ^ 63)) refl
  where
    by_sign : (t : Bool) → ltb v (2 ^ 63) ≡ t → magnitude (cast_signed w64 v) < 2 ^ 63
    by_sign true test = rw test (grind (arith, nat_tests))
    by_sign false test = let high : 2 ^ 63 ≤ v = grind (arith, nat_tests) in rw test (omega arith)

pub bits_of_signed : (v : ℕ) → v < 2 ^ 64 → bits64 (cast_signed w64 v) ≡ v
bits_of_signed v h = by_sign (ltb v (2 ^ 63)) refl
  where
    by_sign : (t : Bool) → ltb v (2 ^ 63) ≡ t → bits64 (cast_signed w64 v) ≡ v
    by_sign true test = rw test refl
    by_sign false test = let high : 2 ^ 63 ≤ v = grind (arith, nat_tests) in rw test (omega arith)

pub bits_are_small : (v : ℤ) → magnitude v < 2 ^ 63 → bits64 v < 2 ^ 64
bits_are_small (pos n) h = omega arith
bits_are_small (negsuc n) h = omega arith

pub within_is : (n : ℕ) (v : ℤ) (t : Bool) → is_within n v ≡ t → t ≡ true → magnitude v < 2 ^ n
within_is n (pos m) t e h = grind (arith, nat_tests)
within_is n (negsuc m) t e h = grind (arith, nat_tests)

pub not_within : (n : ℕ) (v : ℤ) → is_within n v ≡ false → 2 ^ n ≤ magnitude v
not_within n (pos m) h = grind (arith, nat_tests)
not_within n (negsuc m) h = grind (arith, nat_tests)
