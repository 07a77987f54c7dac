-- What the W forms give: they work on the lowest 32 bits and sign-extend the result (RISC-V unprivileged manual, RV64I).
use Rattle.std.specs.Prelude.{ℕ, ◌+◌, ◌*◌, ◌/◌, ◌%◌, ◌^◌}
use Rattle.std.specs.Int.{w32, int_shr}
use Rattle.pw_hart.specs.Bits.{signed, sign_extend64, zero_extend, bits64}
use Rattle.pw_hart.specs.Integer.{sub}

-- the sum
abbrev pub addw : ℕ → ℕ → ℕ
addw a b = sign_extend64 w32 (a + b)

-- the difference
abbrev pub subw : ℕ → ℕ → ℕ
subw a b = sign_extend64 w32 (sub a b)

-- shifted left by the lowest 5 bits of the second
abbrev pub sllw : ℕ → ℕ → ℕ
sllw a b = sign_extend64 w32 (a * 2 ^ (b % 32))

-- shifted right by the lowest 5 bits of the second, with zeros shifted in
abbrev pub srlw : ℕ → ℕ → ℕ
srlw a b = sign_extend64 w32 (zero_extend w32 a / 2 ^ (b % 32))

-- the same, with the sign bit of the lowest 32 copied in
abbrev pub sraw : ℕ → ℕ → ℕ
sraw a b = bits64 (int_shr (signed w32 a) (b % 32))
