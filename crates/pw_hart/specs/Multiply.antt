-- What multiplication and division give (RISC-V unprivileged manual, the M extension).
use Rattle.std.specs.Prelude.{ℕ, ◌*◌, ◌/◌, ◌%◌, ◌^◌, ◌==◌, ℤ, pos, ◌*ℤ◌, int_rem, if◌then◌else◌}
use Rattle.std.specs.Int.{w32, w64, cast_signed, int_shr, int_wrapping_div}
use Rattle.pw_hart.specs.Bits.{signed, bits64, sign_extend64, zero_extend, all_ones}

-- the lowest 64 bits of the product
abbrev pub mul : ℕ → ℕ → ℕ
mul a b = (a * b) % 2 ^ 64

-- the bits of a product of 128 bits above the lowest 64
abbrev pub high : ℤ → ℕ
high product = bits64 (int_shr product 64)

-- the upper 64 bits of the product, signed by signed
abbrev pub mulh : ℕ → ℕ → ℕ
mulh a b = high (cast_signed w64 a *ℤ cast_signed w64 b)

-- signed by unsigned
abbrev pub mulhsu : ℕ → ℕ → ℕ
mulhsu a b = high (cast_signed w64 a *ℤ pos b)

-- unsigned by unsigned
abbrev pub mulhu : ℕ → ℕ → ℕ
mulhu a b = a * b / 2 ^ 64

-- the quotient of signed numbers, rounded toward zero: all ones by zero, and the most negative number by -1 gives itself
abbrev pub div : ℕ → ℕ → ℕ
div a b = if b == 0 then all_ones else bits64 (int_wrapping_div w64 (cast_signed w64 a) (cast_signed w64 b))

-- the quotient of unsigned numbers; all ones by zero
abbrev pub divu : ℕ → ℕ → ℕ
divu a b = if b == 0 then all_ones else a / b

-- the remainder of signed numbers, with the dividend's sign: the dividend by zero, and 0 of the most negative number by -1
abbrev pub rem : ℕ → ℕ → ℕ
rem a b = if b == 0 then a else bits64 (int_rem (cast_signed w64 a) (cast_signed w64 b))

-- the remainder of unsigned numbers; the dividend by zero
abbrev pub remu : ℕ → ℕ → ℕ
remu a b = if b == 0 then a else a % b

-- ---- the same on the lowest 32 bits, the result sign-extended

-- the lowest 32 bits of the product
abbrev pub mulw : ℕ → ℕ → ℕ
mulw a b = sign_extend64 w32 (a * b)

-- the quotient of signed words
abbrev pub divw : ℕ → ℕ → ℕ
divw a b = if zero_extend w32 b == 0 then all_ones else bits64 (int_wrapping_div w32 (signed w32 a) (signed w32 b))

-- the quotient of unsigned words
abbrev pub divuw : ℕ → ℕ → ℕ
divuw a b = if zero_extend w32 b == 0 then all_ones else sign_extend64 w32 (zero_extend w32 a / zero_extend w32 b)

-- the remainder of signed words
abbrev pub remw : ℕ → ℕ → ℕ
remw a b = if zero_extend w32 b == 0 then sign_extend64 w32 a else bits64 (int_rem (signed w32 a) (signed w32 b))

-- the remainder of unsigned words
abbrev pub remuw : ℕ → ℕ → ℕ
remuw a b = if zero_extend w32 b == 0 then sign_extend64 w32 a else sign_extend64 w32 (zero_extend w32 a % zero_extend w32 b)
