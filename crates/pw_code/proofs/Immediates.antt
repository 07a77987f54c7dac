-- How many words load a number, and the numbers that are loaded on the way.
use Rattle.std.proofs.Common.{◌≡◌, ℕ, zero, suc, ◌+◌, ◌-◌, ◌*◌, ◌/◌, ◌%◌, ◌^◌, ◌<◌, ◌≤◌, Bool, true, false, cond, refl, sym, ◌∙◌, ap, subst, arith, pos, negsuc, nat_lt, List, [], ◌∷◌, ◌++◌}
use Rattle.std.specs.Prelude.{ℤ, ◌+ℤ◌, ◌-ℤ◌, ◌*ℤ◌, ◌≤ℤ◌, ◌<ℤ◌, neg_ℤ, int_lt, if◌then◌else◌}
use Rattle.std.specs.Int.{int_shr, int_wrap, int_wrapping_sub, cast_signed, w32, w64}
use Rattle.std.proofs.lemmas.Int.{ints, by_lt_z, int_wrap_fits, wrapping_sub_is, SFits-int_wrap, to_z-of_z}
use mir.Val.{to_z, of_z}
use Rattle.pw_isa.specs.Formats.{FitsField}
use Rattle.std.specs.Int.RustNames.{FitsSigned}
use Rattle.std.proofs.lemmas.Bool.Decides.{nat_tests}
use Rattle.pw_code.specs.Items.{CodePart, instruction}
use Rattle.pw_isa.specs.declared.instruction.Inst.TheVariants.{Addi, Slli}
use Rattle.pw_code.specs.LoadImmediate.{is_within, upper, lower, upper_immediate, rest, load_32_bits, load_signed, signed_words, immediate_words}

at_most_two : (t : Bool) → (if t then 1 else 2) ≤ 2
at_most_two true = omega arith
at_most_two false = omega arith

at_least_one : (t : Bool) → 1 ≤ (if t then 1 else 2)
at_least_one true = omega arith
at_least_one false = omega arith

either_at_most : (t : Bool) (m n k : ℕ) → m ≤ k → n ≤ k → (if t then m else n) ≤ k
either_at_most true m n k hm hn = hm
either_at_most false m n k hm hn = hn

-- Any number takes two words, and two more for each time that its rest is loaded.
pub signed_words_at_most : (times : ℕ) (v : ℤ) → signed_words times v ≤ 2 * times + 2
unfolding signed_words
signed_words_at_most zero v = at_most_two (is_within 11 v)
signed_words_at_most (suc times) v =
    either_at_most (is_within 31 v) _ _ _ (let h = at_most_two (is_within 11 v) in omega arith)
    (let h = signed_words_at_most times (rest v) in omega arith)

pub immediate_words_at_most : (v : ℕ) → immediate_words v ≤ 8
immediate_words_at_most v = signed_words_at_most 3 (cast_signed w64 v)

-- A number of 32 bits takes two words at most.
narrow_words : (times : ℕ) (v : ℤ) → is_within 31 v ≡ true → signed_words times v ≤ 2
unfolding signed_words
narrow_words zero v h = at_most_two (is_within 11 v)
narrow_words (suc times) v h = rw h (at_most_two (is_within 11 v))

-- A number below 2 ^ 63 is itself as a signed one.
cast_small : (v : ℕ) → v < 2 ^ 63 → cast_signed w64 v ≡ pos v
cast_small v h = grind (arith, nat_tests)

within_small : (v : ℕ) → v < 2 ^ 31 → is_within 31 (cast_signed w64 v) ≡ true
within_small v h =
    let small : v < 2 ^ 63 = omega arith in
    rw (cast_small v small) (grind (arith, nat_tests))

-- A quotient is below what the number is below, divided.
shifted : (n : ℕ) → n < 2 ^ 33 → is_within 31 (int_shr (pos n) 12) ≡ true
shifted n h = grind (arith, nat_tests)

-- A small number without its low twelve bits is one that is not negative.
pub without_low : (v : ℕ) → pos v -ℤ lower (pos v) ≡ pos (4096 * ((v + 2048) / 4096))
without_low v = omega (arith, ints)

-- The rest of a number below 2 ^ 32 is one of 32 bits.
rest_small : (v : ℕ) → v < 2 ^ 32 → is_within 31 (rest (cast_signed w64 v)) ≡ true
rest_small v h =
    let small : v < 2 ^ 63 = omega arith in
    let fits : FitsSigned w64 (pos (4096 * ((v + 2048) / 4096))) = record { sfits = omega arith } in
    rw (cast_small v small, without_low v, int_wrap_fits w64 (pos (4096 * ((v + 2048) / 4096))) fits)
    (shifted (4096 * ((v + 2048) / 4096)) (omega arith))

-- An array's size takes two words at most,
pub size_words_at_most : (v : ℕ) → v < 2 ^ 31 → immediate_words v ≤ 2
size_words_at_most v h = narrow_words 3 (cast_signed w64 v) (within_small v h)

-- and a line four.
pub line_words_at_most : (v : ℕ) → v < 2 ^ 32 → immediate_words v ≤ 4
unfolding signed_words
line_words_at_most v h =
    either_at_most (is_within 31 (cast_signed w64 v)) _ _ 4
    (let a = at_most_two (is_within 11 (cast_signed w64 v)) in omega arith)
    (let b = narrow_words 2 (rest (cast_signed w64 v)) (rest_small v h) in omega arith)

-- ---- the rest of a number, as it is computed

-- A number is within its bits by an inequality on each side.
within_below : (n : ℕ) (v : ℤ) → is_within n v ≡ true → v <ℤ pos (2 ^ n)
within_below n (pos v) h = grind (arith, nat_tests, ints)
within_below n (negsuc v) h = omega (arith, ints)

within_above : (n : ℕ) (v : ℤ) → is_within n v ≡ true → neg_ℤ (pos (2 ^ n)) ≤ℤ v
within_above n (pos v) h = omega (arith, ints)
within_above n (negsuc v) h = grind (arith, nat_tests, ints)

within_between : (n : ℕ) (v : ℤ) → v <ℤ pos (2 ^ n) → neg_ℤ (pos (2 ^ n)) ≤ℤ v → is_within n v ≡ true
within_between n (pos v) high low = let h : v < 2 ^ n = omega (arith, ints) in grind (arith, nat_tests)
within_between n (negsuc v) high low = let h : v < 2 ^ n = omega (arith, ints) in grind (arith, nat_tests)

fits_between : (z : ℤ) → z <ℤ pos (2 ^ 63) → neg_ℤ (pos (2 ^ 63)) ≤ℤ z → FitsSigned w64 z
fits_between (pos n) high low = record { sfits = omega (arith, ints) }
fits_between (negsuc n) high low = record { sfits = omega (arith, ints) }

field_between : (sign : ℕ) (z : ℤ) → z <ℤ pos sign → neg_ℤ (pos sign) ≤ℤ z → FitsField sign z
field_between sign (pos n) high low = omega (arith, ints)
field_between sign (negsuc n) high low = omega (arith, ints)

-- A quotient times 4096 is at most the number, and by less than 4096.
quotient_from : (z : ℤ) → (pos 4096 *ℤ int_shr z 12) ≤ℤ z
quotient_from (pos n) = omega (arith, ints)
quotient_from (negsuc n) = omega (arith, ints)

quotient_to : (z : ℤ) → z <ℤ ((pos 4096 *ℤ int_shr z 12) +ℤ pos 4096)
quotient_to (pos n) = omega (arith, ints)
quotient_to (negsuc n) = omega (arith, ints)

pub lower_from : (v : ℤ) → negsuc 2047 ≤ℤ lower v
lower_from v = omega (arith, ints, quotient_from (v +ℤ pos 0x800))

pub lower_to : (v : ℤ) → lower v ≤ℤ pos 2047
lower_to v = omega (arith, ints, quotient_to (v +ℤ pos 0x800))

lower_fits : (v : ℤ) → FitsSigned w64 (lower v)
lower_fits v = fits_between (lower v) (omega (arith, ints, lower_to v)) (omega (arith, ints, lower_from v))

shift_fits : (z : ℤ) → FitsSigned w64 z → FitsSigned w64 (int_shr z 12)
shift_fits (pos n) h = record { sfits = omega arith }
shift_fits (negsuc n) h = record { sfits = omega arith }

shift_within : (z : ℤ) → FitsSigned w64 z → is_within 52 (int_shr z 12) ≡ true
shift_within (pos n) h = grind (arith, nat_tests)
shift_within (negsuc n) h = grind (arith, nat_tests)

pub rest_computed : (v l : ℤ) → FitsSigned w64 v → l ≡ lower v →
    to_z w64 (of_z w64 (int_shr (int_wrapping_sub w64 v l) 12)) ≡ rest v
rest_computed v l f e =
    subst (λ l. to_z w64 (of_z w64 (int_shr (int_wrapping_sub w64 v l) 12)) ≡ rest v) (sym e)
    (rw (wrapping_sub_is w64 v (lower v) f (lower_fits v))
    (to_z-of_z w64 (rest v) (shift_fits (int_wrap w64 (v -ℤ lower v)) (SFits-int_wrap w64 (v -ℤ lower v)))))

-- Of a number of fewer bits the difference does not wrap.
exact_rest : (v : ℤ) → v <ℤ pos (2 ^ 52) → neg_ℤ (pos (2 ^ 52)) ≤ℤ v → rest v ≡ int_shr (v -ℤ lower v) 12
exact_rest v high low =
    let fits : FitsSigned w64 (v -ℤ lower v) =
    fits_between (v -ℤ lower v) (omega (arith, ints, lower_from v)) (omega (arith, ints, lower_to v)) in
    ap (λ z. int_shr z 12) (int_wrap_fits w64 (v -ℤ lower v) fits)

-- The rest of a number is at least 11 bits shorter.
pub narrower : (times : ℕ) (v : ℤ) → times < 3 → FitsSigned w64 v → is_within (30 + 11 * suc times) v ≡ true →
    is_within (30 + 11 * times) (rest v) ≡ true
narrower zero v few f h =
    let high = within_below 41 v h in
    let low = within_above 41 v h in
    rw (exact_rest v (omega (arith, ints)) (omega (arith, ints)))
    (within_between 30 (int_shr (v -ℤ lower v) 12)
    (omega (arith, ints, quotient_from (v -ℤ lower v), lower_from v))
    (omega (arith, ints, quotient_to (v -ℤ lower v), lower_to v)))
narrower (suc zero) v few f h =
    let high = within_below 52 v h in
    let low = within_above 52 v h in
    rw (exact_rest v high low)
    (within_between 41 (int_shr (v -ℤ lower v) 12)
    (omega (arith, ints, quotient_from (v -ℤ lower v), lower_from v))
    (omega (arith, ints, quotient_to (v -ℤ lower v), lower_to v)))
narrower (suc (suc zero)) v few f h = shift_within (int_wrap w64 (v -ℤ lower v)) (SFits-int_wrap w64 (v -ℤ lower v))
narrower (suc (suc (suc times))) v few f h = absurd (omega arith)

-- A number of 32 bits is loaded at once, however often its rest might be,
pub words_at_once : (times : ℕ) (v : ℤ) → is_within 31 v ≡ true → signed_words times v ≡ signed_words 0 v
unfolding signed_words
words_at_once zero v h = refl
words_at_once (suc times) v h = rw h refl

-- and one that is not is wider than what is left where its rest can't be.
pub has_rest : (times : ℕ) (v : ℤ) → is_within (30 + 11 * times) v ≡ true → is_within 31 v ≡ false → 1 ≤ times
has_rest zero v within wide =
    let narrow = within_between 31 v (omega (arith, ints, within_below 30 v within)) (omega (arith, ints, within_above 30 v within)) in
    absurd cc
has_rest (suc times) v within wide = omega arith

words_of_rest : (k times : ℕ) (v : ℤ) → times ≡ suc k → is_within 31 v ≡ false →
    signed_words times v ≡ signed_words k (rest v) + 2
unfolding signed_words
words_of_rest k times v e h = subst (λ n. signed_words n v ≡ signed_words k (rest v) + 2) (sym e) (rw h refl)

-- Its rest is loaded once less often, and is so much shorter.
pub words_with_rest : (times : ℕ) (v : ℤ) → is_within (30 + 11 * times) v ≡ true → is_within 31 v ≡ false →
    signed_words times v ≡ signed_words (times - 1) (rest v) + 2
words_with_rest times v within wide =
    let some = has_rest times v within wide in
    words_of_rest (times - 1) times v (omega arith) wide

pub shorter_rest : (times : ℕ) (v : ℤ) → times ≤ 3 → FitsSigned w64 v → is_within (30 + 11 * times) v ≡ true →
    is_within 31 v ≡ false →
    is_within (30 + 11 * (times - 1)) (rest v) ≡ true
shorter_rest zero v few f within wide = let some = has_rest 0 v within wide in absurd (omega arith)
shorter_rest (suc zero) v few f within wide = narrower 0 v (omega arith) f within
shorter_rest (suc (suc zero)) v few f within wide = narrower 1 v (omega arith) f within
shorter_rest (suc (suc (suc zero))) v few f within wide = narrower 2 v (omega arith) f within
shorter_rest (suc (suc (suc (suc times)))) v few f within wide = absurd (omega arith)

-- The code that loads it at once, or after its rest.
pub load_at_once : (times rd : ℕ) (v : ℤ) → is_within 31 v ≡ true → load_signed times rd v ≡ load_32_bits rd v
unfolding load_signed
load_at_once zero rd v h = refl
load_at_once (suc times) rd v h = rw h refl

load_after : (k times rd : ℕ) (v : ℤ) → times ≡ suc k → is_within 31 v ≡ false →
    load_signed times rd v ≡ load_signed k rd (rest v) ++ instruction (Slli rd rd 12) ∷ instruction (Addi rd rd (lower v)) ∷ []
unfolding load_signed
load_after k times rd v e h =
    subst (λ n. load_signed n rd v ≡ load_signed k rd (rest v) ++ instruction (Slli rd rd 12) ∷ instruction (Addi rd rd (lower v)) ∷ [])
    (sym e) (rw h refl)

pub load_after_rest : (times rd : ℕ) (v : ℤ) → is_within (30 + 11 * times) v ≡ true → is_within 31 v ≡ false →
    load_signed times rd v ≡ load_signed (times - 1) rd (rest v) ++ instruction (Slli rd rd 12) ∷ instruction (Addi rd rd (lower v)) ∷ []
load_after_rest times rd v within wide =
    let some = has_rest times v within wide in
    load_after (times - 1) times rd v (omega arith) wide

-- The immediates have room in their fields.
pub lower_fits_field : (v : ℤ) → FitsField (2 ^ 11) (lower v)
lower_fits_field v = field_between (2 ^ 11) (lower v) (omega (arith, ints, lower_to v)) (omega (arith, ints, lower_from v))

pub immediate_fits_field : (v : ℤ) → is_within 11 v ≡ true → FitsField (2 ^ 11) v
immediate_fits_field v h = field_between (2 ^ 11) v (within_below 11 v h) (within_above 11 v h)

upper_from : (v : ℤ) → neg_ℤ (pos (2 ^ 31)) ≤ℤ v → neg_ℤ (pos (2 ^ 19)) ≤ℤ upper v
upper_from v low = omega (arith, ints, quotient_to (v +ℤ pos 0x800))

upper_to : (v : ℤ) → v <ℤ pos (2 ^ 31) → upper v ≤ℤ pos (2 ^ 19)
upper_to v high = omega (arith, ints, quotient_from (v +ℤ pos 0x800))

chosen_fits : (t : Bool) (z : ℤ) → int_lt z (pos (2 ^ 19)) ≡ t → neg_ℤ (pos (2 ^ 19)) ≤ℤ z → z ≤ℤ pos (2 ^ 19) →
    FitsField (2 ^ 19) (if t then z else z -ℤ pos (2 ^ 20))
chosen_fits true z e low high = field_between (2 ^ 19) z (by_lt_z z (pos (2 ^ 19)) (λ h. h) (λ h. absurd (grind (arith, ints)))) low
chosen_fits false z e low high =
    let above : pos (2 ^ 19) ≤ℤ z = by_lt_z z (pos (2 ^ 19)) (λ h. absurd (grind (arith, ints))) (λ h. h) in
    field_between (2 ^ 19) (z -ℤ pos (2 ^ 20)) (omega (arith, ints)) (omega (arith, ints))

pub upper_fits_field : (v : ℤ) → is_within 31 v ≡ true → FitsField (2 ^ 19) (upper_immediate v)
upper_fits_field v h =
    chosen_fits (int_lt (upper v) (pos (2 ^ 19))) (upper v) refl (upper_from v (within_above 31 v h)) (upper_to v (within_below 31 v h))

-- A number of 32 bits is one.
pub narrow_fits : (v : ℤ) → is_within 31 v ≡ true → FitsSigned w32 v
narrow_fits (pos n) h = record { sfits = grind (arith, nat_tests) }
narrow_fits (negsuc n) h = record { sfits = grind (arith, nat_tests) }

-- The bits of any number are within these.
pub within_all : (v : ℤ) → FitsSigned w64 v → is_within 63 v ≡ true
within_all (pos n) f = let h : n < 2 ^ 63 = f.sfits in grind (arith, nat_tests)
within_all (negsuc n) f = let h : n < 2 ^ 63 = f.sfits in grind (arith, nat_tests)
