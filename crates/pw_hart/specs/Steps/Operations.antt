-- What each operation gives, and when each condition holds.
use Rattle.std.specs.Prelude.{ℕ, Bool, not, ◌==◌, nat_eq, nat_lt, bit_and, bit_or, bit_xor}
use Rattle.pw_hart.specs.declared.operation.Operation.{Operation}
use Rattle.pw_hart.specs.declared.operation.Operation.TheVariants.{Add, Sub, Sll, Slt, Sltu, Xor, Srl, Sra, Or, And, Addw, Subw, Sllw, Srlw, Sraw, Mul, Mulh, Mulhsu, Mulhu, Div, Divu, Rem, Remu, Mulw, Divw, Divuw, Remw, Remuw}
use Rattle.pw_hart.specs.declared.operation.Condition.{Condition}
use Rattle.pw_hart.specs.declared.operation.Condition.TheVariants.{Eq, Ne, Lt, Ge, Ltu, Geu}
use Rattle.pw_hart.specs.Integer.{add, sub, sll, slt, sltu, srl, sra, is_less_signed}
use Rattle.pw_hart.specs.Word.{addw, subw, sllw, srlw, sraw}
use Rattle.pw_hart.specs.Multiply.{mul, mulh, mulhsu, mulhu, div, divu, rem, remu, mulw, divw, divuw, remw, remuw}

-- what an operation gives for two numbers
abbrev pub result_of : Operation → ℕ → ℕ → ℕ
result_of Add = add
result_of Sub = sub
result_of Sll = sll
result_of Slt = slt
result_of Sltu = sltu
result_of Xor = bit_xor
result_of Srl = srl
result_of Sra = sra
result_of Or = bit_or
result_of And = bit_and
result_of Addw = addw
result_of Subw = subw
result_of Sllw = sllw
result_of Srlw = srlw
result_of Sraw = sraw
result_of Mul = mul
result_of Mulh = mulh
result_of Mulhsu = mulhsu
result_of Mulhu = mulhu
result_of Div = div
result_of Divu = divu
result_of Rem = rem
result_of Remu = remu
result_of Mulw = mulw
result_of Divw = divw
result_of Divuw = divuw
result_of Remw = remw
result_of Remuw = remuw

-- whether a condition holds of two numbers
abbrev pub holds_of : Condition → ℕ → ℕ → Bool
holds_of Eq = nat_eq
holds_of Ne = λ a b. not (a == b)
holds_of Lt = is_less_signed
holds_of Ge = λ a b. not (is_less_signed a b)
holds_of Ltu = nat_lt
holds_of Geu = λ a b. not (nat_lt a b)
