-- The formats of an instruction word: where each field stands, and what immediate an instruction word has.
use Rattle.std.specs.Prelude.{ℕ, suc, ℤ, pos, negsuc, ◌≡◌, ◌+◌, ◌-◌, ◌*◌, ◌/◌, ◌%◌, ◌^◌, ◌<◌, Bool, ◌&&◌, nat_eq, nat_lt, if◌then◌else◌}

-- bits high to low of a number, as the manual writes [high:low]
abbrev pub bits : ℕ → ℕ → ℕ → ℕ
bits n high low = n / 2 ^ low % 2 ^ (suc high - low)

-- ---- the fields of an instruction word (unprivileged manual, "Base Instruction Formats")

-- the major opcode
abbrev pub opcode_of : ℕ → ℕ
opcode_of w = bits w 6 0

-- the destination
abbrev pub rd_of : ℕ → ℕ
rd_of w = bits w 11 7

-- the function code of three bits
abbrev pub funct3_of : ℕ → ℕ
funct3_of w = bits w 14 12

-- the first source
abbrev pub rs1_of : ℕ → ℕ
rs1_of w = bits w 19 15

-- the second source
abbrev pub rs2_of : ℕ → ℕ
rs2_of w = bits w 24 20

-- the function code of seven bits
abbrev pub funct7_of : ℕ → ℕ
funct7_of w = bits w 31 25

-- a shift's count of six bits (RV64I, "Integer Register-Immediate Instructions")
abbrev pub shamt_of : ℕ → ℕ
shamt_of w = bits w 25 20

-- the function code of six bits, above such a count
abbrev pub funct6_of : ℕ → ℕ
funct6_of w = bits w 31 26

-- the number of a sign-extended field, whose sign bit has this weight
abbrev pub sign_extend : ℕ → ℕ → ℤ
sign_extend sign n = if nat_lt n sign then pos n else negsuc (sign + sign - suc n)

-- ---- the immediate that each format has in an instruction word ("Immediate Encoding Variants")

-- the twelve bits above rs1
abbrev pub i_immediate_of : ℕ → ℤ
i_immediate_of w = sign_extend (2 ^ 11) (bits w 31 20)

-- [11:5] in the place of funct7, [4:0] in that of rd
abbrev pub s_immediate_of : ℕ → ℤ
s_immediate_of w = sign_extend (2 ^ 11) (bits w 31 25 * 2 ^ 5 + bits w 11 7)

-- [12|10:5] in the place of funct7, [4:1|11] in that of rd
abbrev pub b_immediate_of : ℕ → ℤ
b_immediate_of w =
    sign_extend (2 ^ 12)
    (bits w 31 31 * 2 ^ 12 + bits w 7 7 * 2 ^ 11 + bits w 30 25 * 2 ^ 5 + bits w 11 8 * 2)

-- the signed value of the twenty bits, which the instruction multiplies by 2 ^ 12
abbrev pub u_immediate_of : ℕ → ℤ
u_immediate_of w = sign_extend (2 ^ 19) (bits w 31 12)

-- [20|10:1|11|19:12] above rd
abbrev pub j_immediate_of : ℕ → ℤ
j_immediate_of w =
    sign_extend (2 ^ 20)
    (bits w 31 31 * 2 ^ 20 + bits w 19 12 * 2 ^ 12 + bits w 20 20 * 2 ^ 11 + bits w 30 21 * 2)

-- a row of the listing: a format, the numbers that it fixes, and then the operands
pub data Row : Type 0 where
  R : (opcode funct3 funct7 rd rs1 rs2 : ℕ) → Row
  I : (opcode funct3 rd rs1 : ℕ) (imm : ℤ) → Row
  -- the I format with a count of six bits below funct6, or of five bits below funct7
  Shift : (opcode funct3 funct6 rd rs1 count : ℕ) → Row
  ShiftW : (opcode funct3 funct7 rd rs1 count : ℕ) → Row
  S : (opcode funct3 rs1 rs2 : ℕ) (imm : ℤ) → Row
  B : (opcode funct3 rs1 rs2 : ℕ) (imm : ℤ) → Row
  U : (opcode rd : ℕ) (imm : ℤ) → Row
  J : (opcode rd : ℕ) (imm : ℤ) → Row
  -- all other fields are ignored when read; when written, they are those of the instruction word
  Free : (opcode funct3 instruction_word : ℕ) → Row
  -- one instruction word alone
  Exact : (instruction_word : ℕ) → Row

-- a number of a field whose sign bit has this weight
abbrev pub FitsField : ℕ → ℤ → Type 0
FitsField sign (pos n) = n < sign
FitsField sign (negsuc n) = n < sign

-- an even number
abbrev pub IsEven : ℤ → Type 0
IsEven (pos n) = n % 2 ≡ 0
IsEven (negsuc n) = n % 2 ≡ 1

-- the operands of a row have room in its format
abbrev pub Fits : Row → Type 0
Fits (R _ _ _ rd rs1 rs2) = (rd < 32) × (rs1 < 32) × (rs2 < 32)
Fits (I _ _ rd rs1 imm) = (rd < 32) × (rs1 < 32) × FitsField (2 ^ 11) imm
Fits (Shift _ _ _ rd rs1 count) = (rd < 32) × (rs1 < 32) × (count < 64)
Fits (ShiftW _ _ _ rd rs1 count) = (rd < 32) × (rs1 < 32) × (count < 32)
Fits (S _ _ rs1 rs2 imm) = (rs1 < 32) × (rs2 < 32) × FitsField (2 ^ 11) imm
Fits (B _ _ rs1 rs2 imm) = (rs1 < 32) × (rs2 < 32) × FitsField (2 ^ 12) imm × IsEven imm
Fits (U _ rd imm) = (rd < 32) × FitsField (2 ^ 19) imm
Fits (J _ rd imm) = (rd < 32) × FitsField (2 ^ 20) imm × IsEven imm
Fits (Free _ _ _) = Unit {0}
Fits (Exact _) = Unit {0}

-- the bits of an immediate in two's complement, of which there are `size` patterns
abbrev pub pattern : ℕ → ℤ → ℕ
pattern size (pos n) = n % size
pattern size (negsuc n) = size - suc (n % size)

-- an instruction word by the fields of the R format
abbrev pub r_word : ℕ → ℕ → ℕ → ℕ → ℕ → ℕ → ℕ
r_word opcode funct3 funct7 rd rs1 rs2 =
    funct7 * 2 ^ 25 + rs2 * 2 ^ 20 + rs1 * 2 ^ 15 + funct3 * 2 ^ 12 + rd * 2 ^ 7 + opcode

-- the I format has the bits [11:0] of the immediate above rs1
abbrev pub i_word : ℕ → ℕ → ℕ → ℕ → ℕ → ℕ
i_word opcode funct3 rd rs1 imm = imm * 2 ^ 20 + rs1 * 2 ^ 15 + funct3 * 2 ^ 12 + rd * 2 ^ 7 + opcode

-- the S format has [11:5] in the place of funct7 and [4:0] in that of rd
abbrev pub s_word : ℕ → ℕ → ℕ → ℕ → ℕ → ℕ
s_word opcode funct3 rs1 rs2 imm = r_word opcode funct3 (bits imm 11 5) (bits imm 4 0) rs1 rs2

-- the B format has [12|10:5] in the place of funct7 and [4:1|11] in that of rd
abbrev pub b_word : ℕ → ℕ → ℕ → ℕ → ℕ → ℕ
b_word opcode funct3 rs1 rs2 imm =
    r_word opcode funct3 (bits imm 12 12 * 2 ^ 6 + bits imm 10 5) (bits imm 4 1 * 2 + bits imm 11 11) rs1 rs2

-- the U format has the twenty bits above rd
abbrev pub u_word : ℕ → ℕ → ℕ → ℕ
u_word opcode rd imm = imm * 2 ^ 12 + rd * 2 ^ 7 + opcode

-- the J format has [20|10:1|11|19:12] above rd
abbrev pub j_word : ℕ → ℕ → ℕ → ℕ
j_word opcode rd imm =
    bits imm 20 20 * 2 ^ 31 + bits imm 10 1 * 2 ^ 21 + bits imm 11 11 * 2 ^ 20 + bits imm 19 12 * 2 ^ 12 + rd * 2 ^ 7 + opcode

-- the instruction word of a row
abbrev pub instruction_word : Row → ℕ
instruction_word (R opcode funct3 funct7 rd rs1 rs2) = r_word opcode funct3 funct7 rd rs1 rs2
instruction_word (I opcode funct3 rd rs1 imm) = i_word opcode funct3 rd rs1 (pattern (2 ^ 12) imm)
instruction_word (Shift opcode funct3 funct6 rd rs1 count) = i_word opcode funct3 rd rs1 (funct6 * 2 ^ 6 + count)
instruction_word (ShiftW opcode funct3 funct7 rd rs1 count) = r_word opcode funct3 funct7 rd rs1 count
instruction_word (S opcode funct3 rs1 rs2 imm) = s_word opcode funct3 rs1 rs2 (pattern (2 ^ 12) imm)
instruction_word (B opcode funct3 rs1 rs2 imm) = b_word opcode funct3 rs1 rs2 (pattern (2 ^ 13) imm)
instruction_word (U opcode rd imm) = u_word opcode rd (pattern (2 ^ 20) imm)
instruction_word (J opcode rd imm) = j_word opcode rd (pattern (2 ^ 21) imm)
instruction_word (Free _ _ n) = n
instruction_word (Exact n) = n

-- an instruction word has the numbers that a row fixes
abbrev pub has_code : ℕ → Row → Bool
has_code w (R opcode funct3 funct7 _ _ _) =
    nat_eq (opcode_of w) opcode && nat_eq (funct3_of w) funct3 && nat_eq (funct7_of w) funct7
has_code w (I opcode funct3 _ _ _) = nat_eq (opcode_of w) opcode && nat_eq (funct3_of w) funct3
has_code w (Shift opcode funct3 funct6 _ _ _) =
    nat_eq (opcode_of w) opcode && nat_eq (funct3_of w) funct3 && nat_eq (funct6_of w) funct6
has_code w (ShiftW opcode funct3 funct7 _ _ _) =
    nat_eq (opcode_of w) opcode && nat_eq (funct3_of w) funct3 && nat_eq (funct7_of w) funct7
has_code w (S opcode funct3 _ _ _) = nat_eq (opcode_of w) opcode && nat_eq (funct3_of w) funct3
has_code w (B opcode funct3 _ _ _) = nat_eq (opcode_of w) opcode && nat_eq (funct3_of w) funct3
has_code w (U opcode _ _) = nat_eq (opcode_of w) opcode
has_code w (J opcode _ _) = nat_eq (opcode_of w) opcode
has_code w (Free opcode funct3 _) = nat_eq (opcode_of w) opcode && nat_eq (funct3_of w) funct3
has_code w (Exact n) = nat_eq w n

-- an instruction word has the operands of a row in the places of its format
abbrev pub HasOperands : ℕ → Row → Type 0
HasOperands w (R _ _ _ rd rs1 rs2) = (rd_of w ≡ rd) × (rs1_of w ≡ rs1) × (rs2_of w ≡ rs2)
HasOperands w (I _ _ rd rs1 imm) = (rd_of w ≡ rd) × (rs1_of w ≡ rs1) × (i_immediate_of w ≡ imm)
HasOperands w (Shift _ _ _ rd rs1 count) = (rd_of w ≡ rd) × (rs1_of w ≡ rs1) × (shamt_of w ≡ count)
HasOperands w (ShiftW _ _ _ rd rs1 count) = (rd_of w ≡ rd) × (rs1_of w ≡ rs1) × (rs2_of w ≡ count)
HasOperands w (S _ _ rs1 rs2 imm) = (rs1_of w ≡ rs1) × (rs2_of w ≡ rs2) × (s_immediate_of w ≡ imm)
HasOperands w (B _ _ rs1 rs2 imm) = (rs1_of w ≡ rs1) × (rs2_of w ≡ rs2) × (b_immediate_of w ≡ imm)
HasOperands w (U _ rd imm) = (rd_of w ≡ rd) × (u_immediate_of w ≡ imm)
HasOperands w (J _ rd imm) = (rd_of w ≡ rd) × (j_immediate_of w ≡ imm)
HasOperands w (Free _ _ _) = Unit {0}
HasOperands w (Exact _) = Unit {0}
