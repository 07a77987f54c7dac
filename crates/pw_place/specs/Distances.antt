-- The two parts of a distance that a pair of instructions adds to the address of the first one (psABI, "PC-Relative Symbol Addresses").
use Rattle.std.specs.Prelude.{◌≡◌, ℕ, ◌^◌, ℤ, pos, ◌+ℤ◌, FitsSigned}
use Rattle.std.specs.Int.{int_rem_euclid, w32}
use Rattle.pw_code.specs.LoadImmediate.{upper, lower}

-- A pair reaches so far: the upper part, with the rounding that the signed lower part asks for, is a number of 20 bits.
abbrev pub IsWithinReach : ℤ → Type 0
IsWithinReach distance = FitsSigned w32 (distance +ℤ pos 0x800)

-- The parts of a distance: the multiple of 4096 that is closest, as the 20 bits of `auipc`, and what is left.
pub record AreParts (distance : ℤ) (hi : ℕ) (lo : ℤ) : Type 0 where
  pub upper_part : pos hi ≡ int_rem_euclid (upper distance) (pos (2 ^ 20))
  pub lower_part : lo ≡ lower distance
