-- What a load of each kind means: how many bytes it takes, and how it extends them.
use Rattle.std.specs.Prelude.{ℕ}
use Rattle.std.specs.Int.{w8, w16, w32}
use Rattle.pw_hart.specs.declared.access.Load.{Load}
use Rattle.pw_hart.specs.declared.access.Load.TheVariants.{Byte, Half, Word, Double, UnsignedByte, UnsignedHalf, UnsignedWord}
use Rattle.pw_hart.specs.Bits.{sign_extend64, zero_extend}

-- how many bytes are loaded
abbrev pub width_of : Load → ℕ
width_of Byte = 1
width_of Half = 2
width_of Word = 4
width_of Double = 8
width_of UnsignedByte = 1
width_of UnsignedHalf = 2
width_of UnsignedWord = 4

-- how the value is extended to 64 bits
abbrev pub extension_of : Load → ℕ → ℕ
extension_of Byte value = sign_extend64 w8 value
extension_of Half value = sign_extend64 w16 value
extension_of Word value = sign_extend64 w32 value
extension_of Double value = value
extension_of UnsignedByte value = zero_extend w8 value
extension_of UnsignedHalf value = zero_extend w16 value
extension_of UnsignedWord value = zero_extend w32 value
