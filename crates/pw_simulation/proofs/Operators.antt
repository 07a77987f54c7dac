-- What the code of operators computes: the operators' results on numbers.
use Rattle.std.proofs.Common.{◌≡◌, ◌≢◌, ℕ, zero, suc, ◌+◌, ◌-◌, ◌*◌, ◌%◌, ◌^◌, ◌<◌, ◌≤◌, Bool, true, false, not, eqb, ltb, List, [], ◌∷◌, Some, refl, sym, ◌∙◌, ap, ap₂, arith, pos, negsuc, bit_and, bit_or, bit_xor, int_lt, int_le, int_rem, option_and_then, neg_ℤ, nat_abs, div-add-mod', div-le_self}
use Rattle.std.specs.Prelude.{ℤ, nat_eq, nat_lt, nat_le}
use Rattle.std.specs.Int.{w64, cast_signed, int_shr, int_wrapping_div}
use Rattle.std.proofs.lemmas.Bool.Decides.{nat_tests}
use Rattle.std.proofs.lemmas.Grind.{common_steps}
use Rattle.std.proofs.lemmas.Nat.{and_mask, and_le_l, and_le_r, xor_lt, or_lt, shr_le}
use Rattle.pw_isa.specs.declared.instruction.Inst.{Inst}
use Rattle.pw_isa.specs.declared.instruction.Inst.TheVariants.{Sltiu, Xori, Add, Sub, Sll, Slt, Sltu, Xor, Srl, Sra, Or, And, Mul, Div, Divu, Rem, Remu}
use Rattle.pw_tree.specs.declared.operator.Un.{Un}
use Rattle.pw_tree.specs.declared.operator.Un.TheVariants.{Neg, Plus, Not, Bang}
use Rattle.pw_tree.specs.declared.operator.Bin.{Bin}
use Rattle.pw_tree.specs.declared.operator.Bin.TheVariants as operators
use Rattle.pw_tree.specs.Numbers.{truth, unary_result, binary_result}
use Rattle.pw_hart.specs.Bits.{bits64}
use Rattle.pw_hart.specs.Integer.{add, sub, sll, flag, is_less_signed, slt, sltu, srl, sra}
use Rattle.pw_hart.specs.Multiply.{mul, div, divu, rem, remu}
use Rattle.pw_hart.specs.State.{set}
use Rattle.pw_code.specs.Items.{CodePart, instruction}
use Rattle.pw_code.specs.Pieces.{unary_code, binary_code, divide, remainder, truth_code}
use Rattle.pw_simulation.proofs.Straight.{effect, effects}

-- Code computes a value into a0, and leaves the stack pointer and the calls left as they were.
pub record Computes (code : List CodePart) (x : ℕ → ℕ) (v : ℕ) : Type 0 where
  pub registers : ℕ → ℕ
  pub is : effects code x ≡ Some registers
  pub value : registers 10 ≡ v
  pub stack : registers 2 ≡ x 2
  pub register : registers 9 ≡ x 9

-- by one instruction, and by two
by_one : (i : Inst) (x : ℕ → ℕ) (u v : ℕ) → effect i x ≡ Some (set x 10 u) → u ≡ v → Computes (instruction i ∷ []) x v
by_one i x u v does e = record { registers = set x 10 u; is = ap (λ o. option_and_then (effects []) o) does; value = e; stack = refl; register = refl }

by_two : (i j : Inst) (x : ℕ → ℕ) (u v value : ℕ) → effect i x ≡ Some (set x 10 u) → effect j (set x 10 u) ≡ Some (set (set x 10 u) 10 v) → v ≡ value → Computes (instruction i ∷ instruction j ∷ []) x value
by_two i j x u v value does next e = record {
  registers = set (set x 10 u) 10 v;
  is = ap (λ o. option_and_then (effects (instruction j ∷ [])) o) does ∙ ap (λ o. option_and_then (effects []) o) next;
  value = e;
  stack = refl;
  register = refl;
}

by_none : (x : ℕ → ℕ) (v : ℕ) → x 10 ≡ v → Computes [] x v
by_none x v e = record { registers = x; is = refl; value = e; stack = refl; register = refl }

-- ---- bits

xor_sum : (a b : ℕ) → bit_xor a b + 2 * bit_and a b ≡ a + b
xor_sum a b = grind (arith, common_steps)

complement : (a : ℕ) → a < 2 ^ 64 → bit_xor a (2 ^ 64 - 1) ≡ 2 ^ 64 - 1 - a
complement a h = let mask : bit_and a (2 ^ 64 - 1) ≡ a = and_mask a 64 ∙ omega arith in omega (arith, xor_sum a (2 ^ 64 - 1), mask)

xor_is_zero : (a b : ℕ) → bit_xor a b ≡ 0 → a ≡ b
xor_is_zero a b h = omega (arith, xor_sum a b, and_le_l a b, and_le_r a b, h)

xor_of_same : (a : ℕ) → bit_xor a a ≡ 0
xor_of_same a = grind (arith, common_steps)

flags : (s t : Bool) → s ≡ t → flag s ≡ truth t
flags s t e = ap truth e

is_zero : (a : ℕ) → nat_lt a 1 ≡ nat_eq a 0
is_zero zero = refl
is_zero (suc a) = grind (arith, nat_tests)

is_some : (a : ℕ) → nat_lt 0 a ≡ not (nat_eq a 0)
is_some zero = refl
is_some (suc a) = grind (arith, nat_tests)

same_by_xor : (a b : ℕ) (t : Bool) → nat_eq a b ≡ t → nat_eq (bit_xor a b) 0 ≡ t
same_by_xor a b true e = let same : a ≡ b = grind (arith, nat_tests) in rw (same, xor_of_same b) refl
same_by_xor a b false e =
    let other : a ≢ b = grind (arith, nat_tests) in
    let some : bit_xor a b ≢ 0 = λ h. other (xor_is_zero a b h) in grind (arith, nat_tests, some)

not_less : (a b : ℕ) → nat_le a b ≡ not (nat_lt b a)
not_less a b = grind (arith, nat_tests)

not_less_signed : (a b : ℤ) → int_le a b ≡ not (int_lt b a)
not_less_signed (pos a) (pos b) = not_less a b
not_less_signed (pos a) (negsuc b) = refl
not_less_signed (negsuc a) (pos b) = refl
not_less_signed (negsuc a) (negsuc b) = not_less b a

flipped : (t : Bool) → bit_xor (flag t) 1 ≡ truth (not t)
flipped true = refl
flipped false = refl

-- ---- unary operators

pub unary_computes : (op : Un) (a : ℕ) (x : ℕ → ℕ) → x 10 ≡ a → a < 2 ^ 64 → Computes (unary_code op) x (unary_result op a)
unary_computes Neg a x e h = by_one (Sub 10 0 10) x (sub 0 (x 10)) _ refl (ap (λ n. sub 0 n) e ∙ omega arith)
unary_computes Plus a x e h = by_none x a e
unary_computes Not a x e h = by_one (Xori 10 10 (negsuc 0)) x (bit_xor (x 10) (2 ^ 64 - 1)) _ refl (ap (λ n. bit_xor n (2 ^ 64 - 1)) e ∙ complement a h)
unary_computes Bang a x e h = by_one (Sltiu 10 10 (pos 1)) x (sltu (x 10) 1) _ refl (ap (λ n. sltu n 1) e ∙ flags (nat_lt a 1) (nat_eq a 0) (is_zero a))

-- ---- binary operators

-- those that neither divide nor jump
abbrev pub IsPlain : Bin → Type 0
IsPlain operators.Div = ⊥
IsPlain operators.Rem = ⊥
IsPlain operators.AndAnd = ⊥
IsPlain operators.OrOr = ⊥
IsPlain op = Unit {0}

-- two registers, and then what an operation gives for them
both : (f : ℕ → ℕ → ℕ) (x : ℕ → ℕ) (a b : ℕ) → x 5 ≡ a → x 10 ≡ b → f (x 5) (x 10) ≡ f a b
both f x a b ea eb = ap₂ f ea eb

pub binary_computes : (line : ℕ) (op : Bin) (unsigned : Bool) (a b : ℕ) (x : ℕ → ℕ) → IsPlain op → x 5 ≡ a → x 10 ≡ b → a < 2 ^ 64 → b < 2 ^ 64
    → Computes (binary_code line op unsigned) x (binary_result op unsigned a b)
binary_computes line operators.Mul unsigned a b x p ea eb ha hb = by_one (Mul 10 5 10) x (mul (x 5) (x 10)) _ refl (both mul x a b ea eb)
binary_computes line operators.Add unsigned a b x p ea eb ha hb = by_one (Add 10 5 10) x (add (x 5) (x 10)) _ refl (both add x a b ea eb)
binary_computes line operators.Sub unsigned a b x p ea eb ha hb = by_one (Sub 10 5 10) x (sub (x 5) (x 10)) _ refl (both sub x a b ea eb)
binary_computes line operators.Shl unsigned a b x p ea eb ha hb = by_one (Sll 10 5 10) x (sll (x 5) (x 10)) _ refl (both sll x a b ea eb)
binary_computes line operators.Shr true a b x p ea eb ha hb = by_one (Srl 10 5 10) x (srl (x 5) (x 10)) _ refl (both srl x a b ea eb)
binary_computes line operators.Shr false a b x p ea eb ha hb = by_one (Sra 10 5 10) x (sra (x 5) (x 10)) _ refl (both sra x a b ea eb)
binary_computes line operators.Lt true a b x p ea eb ha hb = by_one (Sltu 10 5 10) x (sltu (x 5) (x 10)) _ refl (both sltu x a b ea eb)
binary_computes line operators.Lt false a b x p ea eb ha hb = by_one (Slt 10 5 10) x (slt (x 5) (x 10)) _ refl (both slt x a b ea eb)
binary_computes line operators.Gt true a b x p ea eb ha hb = by_one (Sltu 10 10 5) x (sltu (x 10) (x 5)) _ refl (both (λ m n. sltu n m) x a b ea eb)
binary_computes line operators.Gt false a b x p ea eb ha hb = by_one (Slt 10 10 5) x (slt (x 10) (x 5)) _ refl (both (λ m n. slt n m) x a b ea eb)
binary_computes line operators.Le true a b x p ea eb ha hb =
    by_two (Sltu 10 10 5) (Xori 10 10 (pos 1)) x (sltu (x 10) (x 5)) (bit_xor (sltu (x 10) (x 5)) 1) _ refl refl
    (both (λ m n. bit_xor (sltu n m) 1) x a b ea eb ∙ flipped (nat_lt b a) ∙ ap truth (sym (not_less a b)))
binary_computes line operators.Le false a b x p ea eb ha hb =
    by_two (Slt 10 10 5) (Xori 10 10 (pos 1)) x (slt (x 10) (x 5)) (bit_xor (slt (x 10) (x 5)) 1) _ refl refl
    (both (λ m n. bit_xor (slt n m) 1) x a b ea eb ∙ flipped (is_less_signed b a) ∙ ap truth (sym (not_less_signed (cast_signed w64 a) (cast_signed w64 b))))
binary_computes line operators.Ge true a b x p ea eb ha hb =
    by_two (Sltu 10 5 10) (Xori 10 10 (pos 1)) x (sltu (x 5) (x 10)) (bit_xor (sltu (x 5) (x 10)) 1) _ refl refl
    (both (λ m n. bit_xor (sltu m n) 1) x a b ea eb ∙ flipped (nat_lt a b) ∙ ap truth (sym (not_less b a)))
binary_computes line operators.Ge false a b x p ea eb ha hb =
    by_two (Slt 10 5 10) (Xori 10 10 (pos 1)) x (slt (x 5) (x 10)) (bit_xor (slt (x 5) (x 10)) 1) _ refl refl
    (both (λ m n. bit_xor (slt m n) 1) x a b ea eb ∙ flipped (is_less_signed a b) ∙ ap truth (sym (not_less_signed (cast_signed w64 b) (cast_signed w64 a))))
binary_computes line operators.Eq unsigned a b x p ea eb ha hb =
    by_two (Xor 10 5 10) (Sltiu 10 10 (pos 1)) x (bit_xor (x 5) (x 10)) (sltu (bit_xor (x 5) (x 10)) 1) _ refl refl
    (both (λ m n. sltu (bit_xor m n) 1) x a b ea eb ∙ flags (nat_lt (bit_xor a b) 1) (nat_eq a b) (is_zero (bit_xor a b) ∙ same_by_xor a b (nat_eq a b) refl))
binary_computes line operators.Ne unsigned a b x p ea eb ha hb =
    by_two (Xor 10 5 10) (Sltu 10 0 10) x (bit_xor (x 5) (x 10)) (sltu 0 (bit_xor (x 5) (x 10))) _ refl refl
    (both (λ m n. sltu 0 (bit_xor m n)) x a b ea eb
    ∙ flags (nat_lt 0 (bit_xor a b)) (not (nat_eq a b)) (is_some (bit_xor a b) ∙ ap not (same_by_xor a b (nat_eq a b) refl)))
binary_computes line operators.And unsigned a b x p ea eb ha hb = by_one (And 10 5 10) x (bit_and (x 5) (x 10)) _ refl (both bit_and x a b ea eb)
binary_computes line operators.Xor unsigned a b x p ea eb ha hb = by_one (Xor 10 5 10) x (bit_xor (x 5) (x 10)) _ refl (both bit_xor x a b ea eb)
binary_computes line operators.Or unsigned a b x p ea eb ha hb = by_one (Or 10 5 10) x (bit_or (x 5) (x 10)) _ refl (both bit_or x a b ea eb)
binary_computes line operators.Div unsigned a b x p ea eb ha hb = absurd p
binary_computes line operators.Rem unsigned a b x p ea eb ha hb = absurd p
binary_computes line operators.AndAnd unsigned a b x p ea eb ha hb = absurd p
binary_computes line operators.OrOr unsigned a b x p ea eb ha hb = absurd p

-- a divisor that is not 0
not_zero : (b : ℕ) → b ≢ 0 → eqb b 0 ≡ false
not_zero b some = grind (arith, nat_tests)

pub divides : (unsigned : Bool) (a b : ℕ) (x : ℕ → ℕ) → x 5 ≡ a → x 10 ≡ b → b ≢ 0 → Computes (instruction (divide unsigned 10 5 10) ∷ []) x (binary_result operators.Div unsigned a b)
divides true a b x ea eb some = by_one (Divu 10 5 10) x (divu (x 5) (x 10)) _ refl (both divu x a b ea eb ∙ rw (not_zero b some) refl)
divides false a b x ea eb some = by_one (Div 10 5 10) x (div (x 5) (x 10)) _ refl (both div x a b ea eb ∙ rw (not_zero b some) refl)

pub takes_remainder : (unsigned : Bool) (a b : ℕ) (x : ℕ → ℕ) → x 5 ≡ a → x 10 ≡ b → b ≢ 0 → Computes (instruction (remainder unsigned 10 5 10) ∷ []) x (binary_result operators.Rem unsigned a b)
takes_remainder true a b x ea eb some = by_one (Remu 10 5 10) x (remu (x 5) (x 10)) _ refl (both remu x a b ea eb ∙ rw (not_zero b some) refl)
takes_remainder false a b x ea eb some = by_one (Rem 10 5 10) x (rem (x 5) (x 10)) _ refl (both rem x a b ea eb ∙ rw (not_zero b some) refl)

-- the truth of a0
pub truth_computes : (a : ℕ) (x : ℕ → ℕ) → x 10 ≡ a → Computes (truth_code ∷ []) x (truth (not (nat_eq a 0)))
truth_computes a x e = by_one (Sltu 10 0 10) x (sltu 0 (x 10)) _ refl (ap (λ n. sltu 0 n) e ∙ flags (nat_lt 0 a) (not (nat_eq a 0)) (is_some a))

-- ---- results have 64 bits

pub truth_small : (t : Bool) → truth t < 2 ^ 64
truth_small true = omega arith
truth_small false = omega arith

pub unary_small : (op : Un) (a : ℕ) → a < 2 ^ 64 → unary_result op a < 2 ^ 64
unary_small Neg a h = omega arith
unary_small Plus a h = h
unary_small Not a h = omega arith
unary_small Bang a h = truth_small (nat_eq a 0)

-- the bits of a signed number that is not too great
abbrev IsLow : ℤ → Type 0
IsLow (pos n) = n < 2 ^ 64
IsLow (negsuc n) = Unit {0}

low_small : (z : ℤ) → IsLow z → bits64 z < 2 ^ 64
low_small (pos n) h = h
low_small (negsuc n) h = omega arith

signed_low : (m : ℕ) → IsLow (cast_signed w64 m)
signed_low m = by_sign (ltb m (2 ^ 63)) refl
  where
    by_sign : (t : Bool) → ltb m (2 ^ 63) ≡ t → IsLow (cast_signed w64 m)
    by_sign true test = rw test (grind (arith, nat_tests))
    by_sign false test = rw test tt

mod_le : (m k : ℕ) → m % k ≤ m
mod_le m k = omega (arith, div-add-mod' m k)

negated_low : (n : ℕ) → IsLow (neg_ℤ (pos n))
negated_low zero = omega arith
negated_low (suc n) = tt

rem_low : (y z : ℤ) → IsLow y → IsLow (int_rem y z)
rem_low (pos a) z h = let few = mod_le a (nat_abs z) in omega (arith, few)
rem_low (negsuc a) z h = negated_low (suc a % nat_abs z)

shr_low : (z : ℤ) (k : ℕ) → IsLow z → IsLow (int_shr z k)
shr_low (pos a) k h = let few = shr_le a k in omega (arith, few)
shr_low (negsuc a) k h = tt

pub binary_small : (op : Bin) (unsigned : Bool) (a b : ℕ) → a < 2 ^ 64 → b < 2 ^ 64 → binary_result op unsigned a b < 2 ^ 64
binary_small operators.Mul unsigned a b ha hb = omega arith
binary_small operators.Div true a b ha hb = let few = div-le_self a b in omega (arith, few)
binary_small operators.Div false a b ha hb = low_small (int_wrapping_div w64 (cast_signed w64 a) (cast_signed w64 b)) (signed_low _)
binary_small operators.Rem true a b ha hb = let few = mod_le a b in omega (arith, few)
binary_small operators.Rem false a b ha hb = low_small (int_rem (cast_signed w64 a) (cast_signed w64 b)) (rem_low (cast_signed w64 a) (cast_signed w64 b) (signed_low a))
binary_small operators.Add unsigned a b ha hb = omega arith
binary_small operators.Sub unsigned a b ha hb = omega arith
binary_small operators.Shl unsigned a b ha hb = omega arith
binary_small operators.Shr true a b ha hb = let few = shr_le a (b % 64) in omega (arith, few)
binary_small operators.Shr false a b ha hb = low_small (int_shr (cast_signed w64 a) (b % 64)) (shr_low (cast_signed w64 a) (b % 64) (signed_low a))
binary_small operators.Lt true a b ha hb = truth_small (nat_lt a b)
binary_small operators.Lt false a b ha hb = truth_small (int_lt (cast_signed w64 a) (cast_signed w64 b))
binary_small operators.Gt true a b ha hb = truth_small (nat_lt b a)
binary_small operators.Gt false a b ha hb = truth_small (int_lt (cast_signed w64 b) (cast_signed w64 a))
binary_small operators.Le true a b ha hb = truth_small (nat_le a b)
binary_small operators.Le false a b ha hb = truth_small (int_le (cast_signed w64 a) (cast_signed w64 b))
binary_small operators.Ge true a b ha hb = truth_small (nat_le b a)
binary_small operators.Ge false a b ha hb = truth_small (int_le (cast_signed w64 b) (cast_signed w64 a))
binary_small operators.Eq unsigned a b ha hb = truth_small (nat_eq a b)
binary_small operators.Ne unsigned a b ha hb = truth_small (not (nat_eq a b))
binary_small operators.And unsigned a b ha hb = let few = and_le_l a b in omega (arith, few)
binary_small operators.Xor unsigned a b ha hb = xor_lt 64 a b ha hb
binary_small operators.Or unsigned a b ha hb = or_lt 64 a b ha hb
binary_small operators.AndAnd unsigned a b ha hb = omega arith
binary_small operators.OrOr unsigned a b ha hb = omega arith
