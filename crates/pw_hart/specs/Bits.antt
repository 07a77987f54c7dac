-- Numbers of 64 and 32 bits, in the words of the RISC-V unprivileged manual.
use Rattle.std.specs.Prelude.{ℕ, ◌-◌, ◌%◌, ◌^◌, ℤ}
use mir.Val.{bits}
use Rattle.std.specs.Int.{Width, w64, cast_signed, cast_unsigned}

-- the lowest bits of a number, read as a signed number in two's complement
abbrev pub signed : Width → ℕ → ℤ
signed width n = cast_signed width (n % 2 ^ bits width)

-- the 64 bits of a signed number, as an immediate has them once it is sign-extended
abbrev pub bits64 : ℤ → ℕ
bits64 z = cast_unsigned w64 z

-- the lowest bits of a number, with the highest of them copied into the bits above
abbrev pub sign_extend64 : Width → ℕ → ℕ
sign_extend64 width n = bits64 (signed width n)

-- the lowest bits of a number, with zeros in the bits above
abbrev pub zero_extend : Width → ℕ → ℕ
zero_extend width n = n % 2 ^ bits width

-- a register with every bit set
abbrev pub all_ones : ℕ
all_ones = 2 ^ 64 - 1
