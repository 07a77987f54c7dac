-- The operators on numbers of 64 bits, and the choices where C leaves the result open (C17, 6.5.3 to 6.5.12).
use Rattle.std.specs.Prelude.{ℕ, ◌+◌, ◌-◌, ◌*◌, ◌/◌, ◌%◌, ◌^◌, Bool, true, false, not, ℤ, if◌then◌else◌, nat_eq, nat_lt, nat_le, bit_and, bit_or, bit_xor, int_lt, int_le, int_rem}
use Rattle.std.specs.Int.{w64, cast_signed, cast_unsigned, int_wrapping_div, int_shr}
use Rattle.pw_tree.specs.declared.operator.Un.{Un}
use Rattle.pw_tree.specs.declared.operator.Un.TheVariants.{Neg, Plus, Not, Bang}
use Rattle.pw_tree.specs.declared.operator.Bin.{Bin}
use Rattle.pw_tree.specs.declared.operator.Bin.TheVariants.{Mul, Div, Rem, Add, Sub, Shl, Shr, Lt, Gt, Le, Ge, Eq, Ne, And, Xor, Or, AndAnd, OrOr}

-- A number modulo 2 to the 64th: arithmetic wraps, signed and unsigned alike.
abbrev pub wrapped : ℕ → ℕ
wrapped n = n % 2 ^ 64

-- The signed number that 64 bits stand for, in two's complement.
abbrev pub signed : ℕ → ℤ
signed n = cast_signed w64 n

-- The 64 bits that stand for a signed number.
abbrev pub bits_of : ℤ → ℕ
bits_of z = cast_unsigned w64 z

-- The long that says whether a condition holds: 1 or 0.
abbrev pub truth : Bool → ℕ
truth holds = if holds then 1 else 0

-- A unary operator's value: `~n` is -1 - n.
abbrev pub unary_result : Un → ℕ → ℕ
unary_result Neg n = wrapped (2 ^ 64 - n)
unary_result Plus n = n
unary_result Not n = 2 ^ 64 - 1 - n
unary_result Bang n = truth (nat_eq n 0)

-- A binary operator's value on two numbers, one row an operator; the flag says that it is the unsigned one.
-- Sums, differences and products wrap; `/` and `%` truncate, and the least number by -1 gives itself and 0; a shift's
-- count is taken modulo 64, and a signed `>>` copies the sign. `/` and `%` are not asked at 0, nor `&&` and `||` at all.
abbrev pub binary_result : Bin → Bool → ℕ → ℕ → ℕ
binary_result Mul _ a b = wrapped (a * b)
binary_result Div true a b = a / b
binary_result Div false a b = bits_of (int_wrapping_div w64 (signed a) (signed b))
binary_result Rem true a b = a % b
binary_result Rem false a b = bits_of (int_rem (signed a) (signed b))
binary_result Add _ a b = wrapped (a + b)
binary_result Sub _ a b = wrapped (a + (2 ^ 64 - b))
binary_result Shl _ a b = wrapped (a * 2 ^ (b % 64))
binary_result Shr true a b = a / 2 ^ (b % 64)
binary_result Shr false a b = bits_of (int_shr (signed a) (b % 64))
binary_result Lt true a b = truth (nat_lt a b)
binary_result Lt false a b = truth (int_lt (signed a) (signed b))
binary_result Gt true a b = truth (nat_lt b a)
binary_result Gt false a b = truth (int_lt (signed b) (signed a))
binary_result Le true a b = truth (nat_le a b)
binary_result Le false a b = truth (int_le (signed a) (signed b))
binary_result Ge true a b = truth (nat_le b a)
binary_result Ge false a b = truth (int_le (signed b) (signed a))
binary_result Eq _ a b = truth (nat_eq a b)
binary_result Ne _ a b = truth (not (nat_eq a b))
binary_result And _ a b = bit_and a b
binary_result Xor _ a b = bit_xor a b
binary_result Or _ a b = bit_or a b
binary_result AndAnd _ a b = 0
binary_result OrOr _ a b = 0
