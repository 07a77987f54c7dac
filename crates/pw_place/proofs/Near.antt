-- The two parts of a distance have room in their fields.
use Rattle.std.proofs.Common.{◌≡◌, ℕ, ◌-◌, ◌^◌, pos, negsuc, ap, arith}
use Rattle.std.specs.Prelude.{ℤ, ◌+ℤ◌, ◌-ℤ◌, ◌*ℤ◌, ◌≤ℤ◌, ◌<ℤ◌, nat_abs}
use Rattle.std.specs.Int.{int_shr, IsNonNegative, w32, w64}
use lib.Signed.{shr_z}
use mir.Val.{to_z, of_z, SFits}
use Rattle.std.proofs.lemmas.Int.{ints, to_z-of_z}
use Rattle.pw_isa.specs.Formats.{FitsField}
use Rattle.pw_code.specs.LoadImmediate.{upper, lower}
use Rattle.pw_place.specs.Distances.{IsWithinReach}

-- A number between the ends of a field has room in it.
fits_between : (sign : ℕ) (z : ℤ) → z <ℤ pos sign → pos 0 ≤ℤ (z +ℤ pos sign) → FitsField sign z
fits_between sign (pos n) high low = omega (arith, ints)
fits_between sign (negsuc n) high low = omega (arith, ints)

-- A number that is divided by 4096, rounded down, leaves a rest below 4096.
rest_from : (z : ℤ) → (pos 4096 *ℤ int_shr z 12) ≤ℤ z
rest_from (pos n) = omega (arith, ints)
rest_from (negsuc n) = omega (arith, ints)

rest_to : (z : ℤ) → z <ℤ ((pos 4096 *ℤ int_shr z 12) +ℤ pos 4096)
rest_to (pos n) = omega (arith, ints)
rest_to (negsuc n) = omega (arith, ints)

-- A number of 32 bits lies between the ends of its type.
reach_from : (z : ℤ) → SFits w32 z → negsuc (2 ^ 31 - 1) ≤ℤ z
reach_from (pos n) fits = omega (arith, ints)
reach_from (negsuc n) fits = omega (arith, ints, fits.sfits)

reach_to : (z : ℤ) → SFits w32 z → z <ℤ pos (2 ^ 31)
reach_to (pos n) fits = omega (arith, ints, fits.sfits)
reach_to (negsuc n) fits = omega (arith, ints)

pub lower_from : (d : ℤ) → negsuc 2047 ≤ℤ lower d
lower_from d = omega (arith, ints, rest_from (d +ℤ pos 0x800))

pub lower_to : (d : ℤ) → lower d ≤ℤ pos 2047
lower_to d = omega (arith, ints, rest_to (d +ℤ pos 0x800))

pub upper_from : (d : ℤ) → IsWithinReach d → negsuc (2 ^ 19 - 1) ≤ℤ upper d
upper_from d near = omega (arith, ints, reach_from _ near, rest_to (d +ℤ pos 0x800))

pub upper_to : (d : ℤ) → IsWithinReach d → upper d <ℤ pos (2 ^ 19)
upper_to d near = omega (arith, ints, reach_to _ near, rest_from (d +ℤ pos 0x800))

pub fits_lower : (d : ℤ) → FitsField (2 ^ 11) (lower d)
fits_lower d = fits_between (2 ^ 11) (lower d) (omega (arith, ints, lower_to d)) (omega (arith, ints, lower_from d))

pub fits_upper : (d : ℤ) → IsWithinReach d → FitsField (2 ^ 19) (upper d)
fits_upper d near = fits_between (2 ^ 19) (upper d) (upper_to d near) (omega (arith, ints, upper_from d near))

-- ---- the parts as 64 bits compute them

pub sum_computed : (d : ℤ) → IsWithinReach d → to_z w64 (of_z w64 (to_z w64 (of_z w64 d) +ℤ pos 2048)) ≡ d +ℤ pos 2048
sum_computed d near = omega (arith, ints, reach_from _ near, reach_to _ near)

pub upper_computed : (d s : ℤ) → IsWithinReach d → s ≡ d +ℤ pos 2048 → to_z w64 (of_z w64 (shr_z s 4096)) ≡ upper d
upper_computed d s near e =
    let from = upper_from d near in
    let to = upper_to d near in
    let u : shr_z s 4096 ≡ upper d = ap (λ z. shr_z z 4096) e in
    omega (arith, ints, from, to, u)

pub lower_computed : (d s : ℤ) → IsWithinReach d → s ≡ d +ℤ pos 2048
    → to_z w32 (of_z w32 (to_z w64 (of_z w64 (to_z w64 (of_z w64 d) -ℤ to_z w64 (of_z w64 (pos 4096 *ℤ to_z w64 (of_z w64 (shr_z s 4096)))))))) ≡ lower d
lower_computed d s near e =
    let from = upper_from d near in
    let to = upper_to d near in
    let low = lower_from d in
    let high = lower_to d in
    let u : shr_z s 4096 ≡ upper d = ap (λ z. shr_z z 4096) e in
    omega (arith, ints, from, to, low, high, reach_from _ near, reach_to _ near, u)

pub natural : (r : ℤ) → IsNonNegative r → SFits w64 r → pos (nat_abs (to_z w64 (of_z w64 r))) ≡ r
natural (pos n) h fits = ap (λ z. pos (nat_abs z)) (to_z-of_z w64 (pos n) fits)
natural (negsuc n) h fits = absurd (below h)
  where
    below : IsNonNegative (negsuc n) → ⊥
    below h = omega (arith, ints)
