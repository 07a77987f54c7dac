-- The rows of the listing: what an instruction word that matches one has, and that the instruction word of one matches it.
use Rattle.std.proofs.Common.{◌≡◌, ℕ, ℤ, ◌+◌, ◌%◌, ◌^◌, ◌<◌, Bool, true, refl, sym, subst, ap, ◌∙◌, arith}
use Rattle.std.specs.Prelude.{nat_eq, nat_lt, ◌&&◌}
use Rattle.std.proofs.lemmas.Bool.Decides.{nat_tests}
use Rattle.pw_isa.specs.Formats.{Row, R, I, Shift, ShiftW, S, B, U, J, Free, Exact, Fits, HasOperands, has_code, instruction_word, bits, pattern, sign_extend, FitsField, IsEven, opcode_of, funct3_of, funct7_of, funct6_of}
use Rattle.pw_isa.proofs.Immediates.{FitsField-sign_extend, IsEven-sign_extend, pattern-sign_extend, sign_extend-pattern, pattern_fits, pattern_even}

-- operands that stand in an instruction word have room in their format
pub operands_fit : (w : ℕ) (r : Row) → HasOperands w r → Fits r
operands_fit w (R _ _ _ rd rs1 rs2) h = (omega arith, omega arith, omega arith)
operands_fit w (I _ _ rd rs1 imm) h =
    (omega arith, omega arith, subst (FitsField (2 ^ 11)) h.2 (FitsField-sign_extend (2 ^ 11) (bits w 31 20) (omega arith)))
operands_fit w (Shift _ _ _ rd rs1 count) h = (omega arith, omega arith, omega arith)
operands_fit w (ShiftW _ _ _ rd rs1 count) h = (omega arith, omega arith, omega arith)
operands_fit w (S _ _ rs1 rs2 imm) h =
    (omega arith, omega arith, subst (FitsField (2 ^ 11)) h.2 (FitsField-sign_extend (2 ^ 11) _ (omega arith)))
operands_fit w (B _ _ rs1 rs2 imm) h = (
  omega arith,
  omega arith,
  subst (FitsField (2 ^ 12)) h.2 (FitsField-sign_extend (2 ^ 12) _ (omega arith)),
  subst IsEven h.2 (IsEven-sign_extend (2 ^ 11) _ (omega arith) (omega arith)),
)
operands_fit w (U _ rd imm) h =
    (omega arith, subst (FitsField (2 ^ 19)) h.1 (FitsField-sign_extend (2 ^ 19) (bits w 31 12) (omega arith)))
operands_fit w (J _ rd imm) h = (
  omega arith,
  subst (FitsField (2 ^ 20)) h.1 (FitsField-sign_extend (2 ^ 20) _ (omega arith)),
  subst IsEven h.1 (IsEven-sign_extend (2 ^ 19) _ (omega arith) (omega arith)),
)
operands_fit w (Free _ _ _) h = tt
operands_fit w (Exact _) h = tt

-- one, two or three tests that all hold
pub same : (a b : ℕ) → nat_eq a b ≡ true → a ≡ b
same a b h = grind (arith, nat_tests)

pub both : (a b c d : ℕ) → (nat_eq a b && nat_eq c d) ≡ true → (a ≡ b) × (c ≡ d)
both a b c d h = (grind (arith, nat_tests), grind (arith, nat_tests))

pub all_three : (a b c d e f : ℕ) → (nat_eq a b && nat_eq c d && nat_eq e f) ≡ true → (a ≡ b) × (c ≡ d) × (e ≡ f)
all_three a b c d e f h = (grind (arith, nat_tests), grind (arith, nat_tests), grind (arith, nat_tests))

-- the bits of an immediate that a field stands for are the field
pattern_is : (sign n : ℕ) (imm : ℤ) → n < sign + sign → sign_extend sign n ≡ imm → pattern (sign + sign) imm ≡ n
pattern_is sign n imm small e = subst (λ v. pattern (sign + sign) v ≡ n) e (pattern-sign_extend sign n small)

-- the row of an instruction word says all of its bits
abbrev pub IsWhole : Row → Type 0
IsWhole (Free _ _ _) = ⊥
IsWhole _ = Unit {0}

-- then the instruction word of a row that an instruction word matches is that instruction word
pub word_is : (w : ℕ) (r : Row) → w < 2 ^ 32 → IsWhole r → has_code w r ≡ true → HasOperands w r → instruction_word r ≡ w
word_is w (R op f3 f7 rd rs1 rs2) small _ code h =
    let c : (opcode_of w ≡ op) × (funct3_of w ≡ f3) × (funct7_of w ≡ f7) = all_three _ _ _ _ _ _ code in
    omega arith
word_is w (I op f3 rd rs1 imm) small _ code h =
    let c : (opcode_of w ≡ op) × (funct3_of w ≡ f3) = both _ _ _ _ code in
    rw (pattern_is (2 ^ 11) _ imm (omega arith) h.2) (omega arith)
word_is w (Shift op f3 f6 rd rs1 count) small _ code h =
    let c : (opcode_of w ≡ op) × (funct3_of w ≡ f3) × (funct6_of w ≡ f6) = all_three _ _ _ _ _ _ code in
    omega arith
word_is w (ShiftW op f3 f7 rd rs1 count) small _ code h =
    let c : (opcode_of w ≡ op) × (funct3_of w ≡ f3) × (funct7_of w ≡ f7) = all_three _ _ _ _ _ _ code in
    omega arith
word_is w (S op f3 rs1 rs2 imm) small _ code h =
    let c : (opcode_of w ≡ op) × (funct3_of w ≡ f3) = both _ _ _ _ code in
    rw (pattern_is (2 ^ 11) _ imm (omega arith) h.2) (omega arith)
word_is w (B op f3 rs1 rs2 imm) small _ code h =
    let c : (opcode_of w ≡ op) × (funct3_of w ≡ f3) = both _ _ _ _ code in
    rw (pattern_is (2 ^ 12) _ imm (omega arith) h.2) (omega arith)
word_is w (U op rd imm) small _ code h =
    let c : opcode_of w ≡ op = same _ _ code in
    rw (pattern_is (2 ^ 19) _ imm (omega arith) h.1) (omega arith)
word_is w (J op rd imm) small _ code h =
    let c : opcode_of w ≡ op = same _ _ code in
    rw (pattern_is (2 ^ 20) _ imm (omega arith) h.1) (omega arith)
word_is w (Free _ _ _) small whole code h = absurd whole
word_is w (Exact n) small _ code h = sym (same _ _ code)

-- the numbers that a row fixes have room in their fields
abbrev pub fits_code : Row → Bool
fits_code (R op f3 f7 _ _ _) = nat_lt op 128 && nat_lt f3 8 && nat_lt f7 128
fits_code (I op f3 _ _ _) = nat_lt op 128 && nat_lt f3 8
fits_code (Shift op f3 f6 _ _ _) = nat_lt op 128 && nat_lt f3 8 && nat_lt f6 64
fits_code (ShiftW op f3 f7 _ _ _) = nat_lt op 128 && nat_lt f3 8 && nat_lt f7 128
fits_code (S op f3 _ _ _) = nat_lt op 128 && nat_lt f3 8
fits_code (B op f3 _ _ _) = nat_lt op 128 && nat_lt f3 8
fits_code (U op _ _) = nat_lt op 128
fits_code (J op _ _) = nat_lt op 128
fits_code (Free op f3 n) = nat_eq (opcode_of n) op && nat_eq (funct3_of n) f3 && nat_lt n (2 ^ 32)
fits_code (Exact n) = nat_lt n (2 ^ 32)

less : (a b : ℕ) → nat_lt a b ≡ true → a < b
less a b h = grind (arith, nat_tests)

both_less : (a b c d : ℕ) → (nat_lt a b && nat_lt c d) ≡ true → (a < b) × (c < d)
both_less a b c d h = (grind (arith, nat_tests), grind (arith, nat_tests))

all_less : (a b c d e f : ℕ) → (nat_lt a b && nat_lt c d && nat_lt e f) ≡ true → (a < b) × (c < d) × (e < f)
all_less a b c d e f h = (grind (arith, nat_tests), grind (arith, nat_tests), grind (arith, nat_tests))

first_two : (a b c d : ℕ) (t : Bool) → (nat_eq a b && nat_eq c d && t) ≡ true
    → (nat_eq a b && nat_eq c d) ≡ true
first_two a b c d t h = grind (arith, nat_tests)

last_less : (a b c d e f : ℕ) → (nat_eq a b && nat_eq c d && nat_lt e f) ≡ true → e < f
last_less a b c d e f h = grind (arith, nat_tests)

one_test : (a b : ℕ) → a ≡ b → nat_eq a b ≡ true
one_test a b h = grind (arith, nat_tests)

two_tests : (a b c d : ℕ) → a ≡ b → c ≡ d → (nat_eq a b && nat_eq c d) ≡ true
two_tests a b c d h k = grind (arith, nat_tests)

three_tests : (a b c d e f : ℕ) → a ≡ b → c ≡ d → e ≡ f → (nat_eq a b && nat_eq c d && nat_eq e f) ≡ true
three_tests a b c d e f h k l = grind (arith, nat_tests)

-- the instruction word of a row has the numbers that the row fixes
pub word_has_code : (r : Row) → fits_code r ≡ true → Fits r → has_code (instruction_word r) r ≡ true
word_has_code (R op f3 f7 rd rs1 rs2) code h =
    let c : (op < 128) × (f3 < 8) × (f7 < 128) = all_less _ _ _ _ _ _ code in
    let w : ℕ = instruction_word (R op f3 f7 rd rs1 rs2) in
    let e : (opcode_of w ≡ op) × (funct3_of w ≡ f3) × (funct7_of w ≡ f7) = (omega arith, omega arith, omega arith) in
    three_tests _ _ _ _ _ _ e.0 e.1 e.2
word_has_code (I op f3 rd rs1 imm) code h =
    let c : (op < 128) × (f3 < 8) = both_less _ _ _ _ code in
    let p : pattern (2 ^ 12) imm < 2 ^ 12 = pattern_fits (2 ^ 11) imm h.2 in
    let w : ℕ = instruction_word (I op f3 rd rs1 imm) in
    let e : (opcode_of w ≡ op) × (funct3_of w ≡ f3) = (omega arith, omega arith) in
    two_tests _ _ _ _ e.0 e.1
word_has_code (Shift op f3 f6 rd rs1 count) code h =
    let c : (op < 128) × (f3 < 8) × (f6 < 64) = all_less _ _ _ _ _ _ code in
    let w : ℕ = instruction_word (Shift op f3 f6 rd rs1 count) in
    let e : (opcode_of w ≡ op) × (funct3_of w ≡ f3) × (funct6_of w ≡ f6) = (omega arith, omega arith, omega arith) in
    three_tests _ _ _ _ _ _ e.0 e.1 e.2
word_has_code (ShiftW op f3 f7 rd rs1 count) code h =
    let c : (op < 128) × (f3 < 8) × (f7 < 128) = all_less _ _ _ _ _ _ code in
    let w : ℕ = instruction_word (ShiftW op f3 f7 rd rs1 count) in
    let e : (opcode_of w ≡ op) × (funct3_of w ≡ f3) × (funct7_of w ≡ f7) = (omega arith, omega arith, omega arith) in
    three_tests _ _ _ _ _ _ e.0 e.1 e.2
word_has_code (S op f3 rs1 rs2 imm) code h =
    let c : (op < 128) × (f3 < 8) = both_less _ _ _ _ code in
    let p : pattern (2 ^ 12) imm < 2 ^ 12 = pattern_fits (2 ^ 11) imm h.2 in
    let w : ℕ = instruction_word (S op f3 rs1 rs2 imm) in
    let e : (opcode_of w ≡ op) × (funct3_of w ≡ f3) = (omega arith, omega arith) in
    two_tests _ _ _ _ e.0 e.1
word_has_code (B op f3 rs1 rs2 imm) code h =
    let c : (op < 128) × (f3 < 8) = both_less _ _ _ _ code in
    let p : pattern (2 ^ 13) imm < 2 ^ 13 = pattern_fits (2 ^ 12) imm h.2 in
    let w : ℕ = instruction_word (B op f3 rs1 rs2 imm) in
    let e : (opcode_of w ≡ op) × (funct3_of w ≡ f3) = (omega arith, omega arith) in
    two_tests _ _ _ _ e.0 e.1
word_has_code (U op rd imm) code h =
    let c : op < 128 = less op 128 code in
    let p : pattern (2 ^ 20) imm < 2 ^ 20 = pattern_fits (2 ^ 19) imm h.1 in
    let e : opcode_of (instruction_word (U op rd imm)) ≡ op = omega arith in one_test _ _ e
word_has_code (J op rd imm) code h =
    let c : op < 128 = less op 128 code in
    let p : pattern (2 ^ 21) imm < 2 ^ 21 = pattern_fits (2 ^ 20) imm h.1 in
    let e : opcode_of (instruction_word (J op rd imm)) ≡ op = omega arith in one_test _ _ e
word_has_code (Free op f3 n) code h = first_two (opcode_of n) op (funct3_of n) f3 (nat_lt n (2 ^ 32)) code
word_has_code (Exact n) code h = one_test n n refl

-- a field that is the bits of an immediate stands for that immediate
stands_for : (sign n : ℕ) (imm : ℤ) → FitsField sign imm → n ≡ pattern (sign + sign) imm → sign_extend sign n ≡ imm
stands_for sign n imm fits e = ap (sign_extend sign) e ∙ sign_extend-pattern sign imm fits

-- and its operands in their places
pub word_has_operands : (r : Row) → fits_code r ≡ true → Fits r → HasOperands (instruction_word r) r
word_has_operands (R op f3 f7 rd rs1 rs2) code h =
    let c : (op < 128) × (f3 < 8) × (f7 < 128) = all_less _ _ _ _ _ _ code in
    (omega arith, omega arith, omega arith)
word_has_operands (I op f3 rd rs1 imm) code h =
    let c : (op < 128) × (f3 < 8) = both_less _ _ _ _ code in
    let p : pattern (2 ^ 12) imm < 2 ^ 12 = pattern_fits (2 ^ 11) imm h.2 in
    (omega arith, omega arith, stands_for (2 ^ 11) _ imm h.2 (omega arith))
word_has_operands (Shift op f3 f6 rd rs1 count) code h =
    let c : (op < 128) × (f3 < 8) × (f6 < 64) = all_less _ _ _ _ _ _ code in
    (omega arith, omega arith, omega arith)
word_has_operands (ShiftW op f3 f7 rd rs1 count) code h =
    let c : (op < 128) × (f3 < 8) × (f7 < 128) = all_less _ _ _ _ _ _ code in
    (omega arith, omega arith, omega arith)
word_has_operands (S op f3 rs1 rs2 imm) code h =
    let c : (op < 128) × (f3 < 8) = both_less _ _ _ _ code in
    let p : pattern (2 ^ 12) imm < 2 ^ 12 = pattern_fits (2 ^ 11) imm h.2 in
    (omega arith, omega arith, stands_for (2 ^ 11) _ imm h.2 (omega arith))
word_has_operands (B op f3 rs1 rs2 imm) code h =
    let c : (op < 128) × (f3 < 8) = both_less _ _ _ _ code in
    let p : pattern (2 ^ 13) imm < 2 ^ 13 = pattern_fits (2 ^ 12) imm h.2 in
    let even : pattern (2 ^ 13) imm % 2 ≡ 0 = pattern_even (2 ^ 11) imm h.2 h.3 in
    (omega arith, omega arith, stands_for (2 ^ 12) _ imm h.2 (omega arith))
word_has_operands (U op rd imm) code h =
    let c : op < 128 = less op 128 code in
    let p : pattern (2 ^ 20) imm < 2 ^ 20 = pattern_fits (2 ^ 19) imm h.1 in
    (omega arith, stands_for (2 ^ 19) _ imm h.1 (omega arith))
word_has_operands (J op rd imm) code h =
    let c : op < 128 = less op 128 code in
    let p : pattern (2 ^ 21) imm < 2 ^ 21 = pattern_fits (2 ^ 20) imm h.1 in
    let even : pattern (2 ^ 21) imm % 2 ≡ 0 = pattern_even (2 ^ 19) imm h.1 h.2 in
    (omega arith, stands_for (2 ^ 20) _ imm h.1 (omega arith))
word_has_operands (Free op f3 n) code h = tt
word_has_operands (Exact n) code h = tt

-- and it is an instruction word of 32 bits
pub word_fits : (r : Row) → fits_code r ≡ true → Fits r → instruction_word r < 2 ^ 32
word_fits (R op f3 f7 rd rs1 rs2) code h =
    let c : (op < 128) × (f3 < 8) × (f7 < 128) = all_less _ _ _ _ _ _ code in
    omega arith
word_fits (I op f3 rd rs1 imm) code h =
    let c : (op < 128) × (f3 < 8) = both_less _ _ _ _ code in
    let p : pattern (2 ^ 12) imm < 2 ^ 12 = pattern_fits (2 ^ 11) imm h.2 in
    omega arith
word_fits (Shift op f3 f6 rd rs1 count) code h =
    let c : (op < 128) × (f3 < 8) × (f6 < 64) = all_less _ _ _ _ _ _ code in
    omega arith
word_fits (ShiftW op f3 f7 rd rs1 count) code h =
    let c : (op < 128) × (f3 < 8) × (f7 < 128) = all_less _ _ _ _ _ _ code in
    omega arith
word_fits (S op f3 rs1 rs2 imm) code h =
    let c : (op < 128) × (f3 < 8) = both_less _ _ _ _ code in
    omega arith
word_fits (B op f3 rs1 rs2 imm) code h =
    let c : (op < 128) × (f3 < 8) = both_less _ _ _ _ code in
    omega arith
word_fits (U op rd imm) code h =
    let c : op < 128 = less op 128 code in
    let p : pattern (2 ^ 20) imm < 2 ^ 20 = pattern_fits (2 ^ 19) imm h.1 in
    omega arith
word_fits (J op rd imm) code h =
    let c : op < 128 = less op 128 code in
    omega arith
word_fits (Free op f3 n) code h = last_less (opcode_of n) op (funct3_of n) f3 n (2 ^ 32) code
word_fits (Exact n) code h = less n (2 ^ 32) code
