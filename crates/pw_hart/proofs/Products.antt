-- A product of two signed numbers of 64 bits fits 128.
use Rattle.std.proofs.Common.{◌^◌, ◌≤◌, ℤ, pos, negsuc, ◌*ℤ◌, w64, arith, lit<}
use Rattle.std.specs.Int.{w128}
use Rattle.std.specs.Int.RustNames.{FitsSigned, unsigned_abs}
use Rattle.std.proofs.lemmas.Int.{fits_signed_mul}

-- a number that fits 64 bits is at most 2 ^ 63 away from 0
abs_at_most : (z : ℤ) → FitsSigned w64 z → unsigned_abs z ≤ 2 ^ 63
abs_at_most (pos n) h = omega (arith, h.sfits)
abs_at_most (negsuc n) h = omega (arith, h.sfits)

pub product_fits : (x y : ℤ) → FitsSigned w64 x → FitsSigned w64 y → FitsSigned w128 (x *ℤ y)
product_fits x y f g = fits_signed_mul w128 x y (2 ^ 63) (2 ^ 63) (abs_at_most x f) (abs_at_most y g) (lit< tt)
