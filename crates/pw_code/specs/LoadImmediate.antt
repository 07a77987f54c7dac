-- The code that puts a number of 64 bits into a register (RISC-V assembly programmer's manual, `li`).
use Rattle.std.specs.Prelude.{ℕ, zero, suc, ◌+◌, ◌^◌, ℤ, pos, negsuc, ◌+ℤ◌, ◌-ℤ◌, ◌*ℤ◌, Bool, if◌then◌else◌, List, [], ◌∷◌, ◌++◌, nat_lt, int_lt}
use Rattle.std.specs.Int.{int_shr, int_wrap, cast_signed, w64}
use Rattle.pw_isa.specs.declared.instruction.Inst.TheVariants.{Addi, Lui, Addiw, Slli}
use Rattle.pw_isa.specs.Registers.{x0}
use Rattle.pw_code.specs.Items.{CodePart, instruction}

-- A signed number is from -2 ^ n to 2 ^ n - 1.
abbrev pub is_within : ℕ → ℤ → Bool
is_within n (pos v) = nat_lt v (2 ^ n)
is_within n (negsuc v) = nat_lt v (2 ^ n)

-- The multiple of 4096 that is closest to a number, divided by 4096 (psABI, `R_RISCV_HI20`),
abbrev pub upper : ℤ → ℤ
upper v = int_shr (v +ℤ pos 0x800) 12

-- and what is left, from -2048 to 2047: the low twelve bits as a signed number (psABI, `R_RISCV_LO12_I`).
abbrev pub lower : ℤ → ℤ
lower v = v -ℤ (pos 4096 *ℤ upper v)

-- The upper part as the immediate of `lui`, a signed number of 20 bits; 2 ^ 19 wraps to -2 ^ 19.
abbrev pub upper_immediate : ℤ → ℤ
upper_immediate v = if int_lt (upper v) (pos (2 ^ 19)) then upper v else upper v -ℤ pos (2 ^ 20)

-- A number of 32 bits takes one instruction where it is an immediate of `addi`, and else two: `addiw` wraps to 32 bits.
abbrev pub load_32_bits : (rd : ℕ) → ℤ → List CodePart
load_32_bits rd v =
    if is_within 11 v
    then instruction (Addi rd x0 v) ∷ []
    else instruction (Lui rd (upper_immediate v)) ∷ instruction (Addiw rd rd (lower v)) ∷ []

-- A wider number without its low twelve bits, in 52 bits: the difference wraps at 64.
abbrev pub rest : ℤ → ℤ
rest v = int_shr (int_wrap w64 (v -ℤ lower v)) 12

-- A number of 32 bits is loaded at once; of a wider one the rest is loaded first, shifted, and the low twelve bits are added.
-- This happens so many times at most.
unfoldable pub load_signed : ℕ → (rd : ℕ) → ℤ → List CodePart
load_signed zero rd v = load_32_bits rd v
load_signed (suc times) rd v =
    if is_within 31 v
    then load_32_bits rd v
    else load_signed times rd (rest v) ++ instruction (Slli rd rd 12) ∷ instruction (Addi rd rd (lower v)) ∷ []

-- The rest of 64 bits has 52 bits, its rest 40, and the rest of that 28: after three times the number is one of 32 bits.
abbrev pub load_immediate : (rd : ℕ) → ℕ → List CodePart
load_immediate rd v = load_signed 3 rd (cast_signed w64 v)

-- How many words the code is, for every register.
unfoldable pub signed_words : ℕ → ℤ → ℕ
signed_words zero v = if is_within 11 v then 1 else 2
signed_words (suc times) v =
    if is_within 31 v
    then (if is_within 11 v then 1 else 2)
    else signed_words times (rest v) + 2

-- How many words the code has that loads the 64 bits of a number.
abbrev pub immediate_words : ℕ → ℕ
immediate_words v = signed_words 3 (cast_signed w64 v)
