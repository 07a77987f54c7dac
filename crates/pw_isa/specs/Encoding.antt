-- Encoding and decoding: the instruction word of an instruction, and the instruction of an instruction word.
use Rattle.std.specs.Prelude.{ℕ, ℤ, ◌≡◌, Option, true, List, [], ◌∷◌, ◌++◌, find}
use Rattle.pw_isa.specs.declared.instruction.Inst.{Inst}
use Rattle.pw_isa.specs.declared.instruction.Inst.TheVariants.{Lui, Auipc, Jal, Jalr, Beq, Bne, Blt, Bge, Bltu, Bgeu, Lb, Lh, Lw, Lbu, Lhu, Sb, Sh, Sw, Addi, Slti, Sltiu, Xori, Ori, Andi, Add, Sub, Sll, Slt, Sltu, Xor, Srl, Sra, Or, And, Fence, Ecall, Ebreak, Lwu, Ld, Sd, Slli, Srli, Srai, Addiw, Slliw, Srliw, Sraiw, Addw, Subw, Sllw, Srlw, Sraw, Mul, Mulh, Mulhsu, Mulhu, Div, Divu, Rem, Remu, Mulw, Divw, Divuw, Remw, Remuw}
use Rattle.pw_isa.specs.Formats.{instruction_word, Fits, has_code, HasOperands, rd_of, rs1_of, rs2_of, shamt_of, i_immediate_of, s_immediate_of, b_immediate_of, u_immediate_of, j_immediate_of}
use Rattle.pw_isa.specs.Listing.{row}

-- the instruction word that an instruction is written as
abbrev pub word_of : Inst → ℕ
word_of i = instruction_word (row i)

-- the operands have room in the instruction's format
abbrev pub IsEncodable : Inst → Type 0
IsEncodable i = Fits (row i)

-- an instruction word matches the row of an instruction: it has the row's fixed numbers, and the operands in their places
pub record Matches (w : ℕ) (i : Inst) : Type 0 where
  pub code : has_code w (row i) ≡ true
  pub operands : HasOperands w (row i)

-- an instruction of each format, with the operands that an instruction word has
module _ (w : ℕ) where
  -- two sources and a destination
  abbrev pub r_type : (ℕ → ℕ → ℕ → Inst) → Inst
  r_type make = make (rd_of w) (rs1_of w) (rs2_of w)

  -- a source, a destination and an immediate
  abbrev pub i_type : (ℕ → ℕ → ℤ → Inst) → Inst
  i_type make = make (rd_of w) (rs1_of w) (i_immediate_of w)

  -- a source, a destination and a count of six bits
  abbrev pub shift_type : (ℕ → ℕ → ℕ → Inst) → Inst
  shift_type make = make (rd_of w) (rs1_of w) (shamt_of w)

  -- two sources and the immediate of a store
  abbrev pub s_type : (ℕ → ℕ → ℤ → Inst) → Inst
  s_type make = make (rs1_of w) (rs2_of w) (s_immediate_of w)

  -- two sources and the distance of a branch
  abbrev pub b_type : (ℕ → ℕ → ℤ → Inst) → Inst
  b_type make = make (rs1_of w) (rs2_of w) (b_immediate_of w)

  -- a destination and an upper immediate
  abbrev pub u_type : (ℕ → ℤ → Inst) → Inst
  u_type make = make (rd_of w) (u_immediate_of w)

  -- a destination and the distance of a jump
  abbrev pub j_type : (ℕ → ℤ → Inst) → Inst
  j_type make = make (rd_of w) (j_immediate_of w)

-- ---- the instructions of each major opcode, with a word's operands ("RISC-V base opcode map")

-- LUI
abbrev pub lui : ℕ → List Inst
lui w = u_type w Lui ∷ []

-- AUIPC
abbrev pub auipc : ℕ → List Inst
auipc w = u_type w Auipc ∷ []

-- JAL
abbrev pub jal : ℕ → List Inst
jal w = j_type w Jal ∷ []

-- JALR
abbrev pub jalr : ℕ → List Inst
jalr w = i_type w Jalr ∷ []

-- BRANCH
abbrev pub branches : ℕ → List Inst
branches w =
    b_type w Beq ∷ b_type w Bne ∷ b_type w Blt ∷ b_type w Bge ∷ b_type w Bltu ∷ b_type w Bgeu ∷ []

-- LOAD
abbrev pub loads : ℕ → List Inst
loads w =
    i_type w Lb ∷ i_type w Lh ∷ i_type w Lw ∷ i_type w Ld ∷ i_type w Lbu ∷ i_type w Lhu ∷
    i_type w Lwu ∷ []

-- STORE
abbrev pub stores : ℕ → List Inst
stores w = s_type w Sb ∷ s_type w Sh ∷ s_type w Sw ∷ s_type w Sd ∷ []

-- OP-IMM
abbrev pub op_imm : ℕ → List Inst
op_imm w =
    i_type w Addi ∷ shift_type w Slli ∷ i_type w Slti ∷ i_type w Sltiu ∷ i_type w Xori ∷
    shift_type w Srli ∷ shift_type w Srai ∷ i_type w Ori ∷ i_type w Andi ∷ []

-- OP
abbrev pub op : ℕ → List Inst
op w =
    r_type w Add ∷ r_type w Sub ∷ r_type w Sll ∷ r_type w Slt ∷ r_type w Sltu ∷ r_type w Xor ∷
    r_type w Srl ∷ r_type w Sra ∷ r_type w Or ∷ r_type w And ∷ r_type w Mul ∷ r_type w Mulh ∷
    r_type w Mulhsu ∷ r_type w Mulhu ∷ r_type w Div ∷ r_type w Divu ∷ r_type w Rem ∷
    r_type w Remu ∷ []

-- MISC-MEM
abbrev pub misc_mem : ℕ → List Inst
misc_mem _ = Fence ∷ []

-- SYSTEM
abbrev pub system : ℕ → List Inst
system _ = Ecall ∷ Ebreak ∷ []

-- OP-IMM-32
abbrev pub op_imm_32 : ℕ → List Inst
op_imm_32 w = i_type w Addiw ∷ r_type w Slliw ∷ r_type w Srliw ∷ r_type w Sraiw ∷ []

-- OP-32
abbrev pub op_32 : ℕ → List Inst
op_32 w =
    r_type w Addw ∷ r_type w Subw ∷ r_type w Sllw ∷ r_type w Srlw ∷ r_type w Sraw ∷ r_type w Mulw ∷
    r_type w Divw ∷ r_type w Divuw ∷ r_type w Remw ∷ r_type w Remuw ∷ []

-- every instruction, with a word's operands
abbrev pub every : ℕ → List Inst
every w =
    lui w ++ auipc w ++ jal w ++ jalr w ++ branches w ++ loads w ++ stores w
    ++ op_imm w ++ op w ++ misc_mem w ++ system w ++ op_imm_32 w ++ op_32 w

-- the instruction among these whose fixed numbers an instruction word has
abbrev pub among : ℕ → List Inst → Option Inst
among w is = find (λ i. has_code w (row i)) is

-- the instruction that an instruction word is read as
unfoldable pub decoded : ℕ → Option Inst
decoded w = among w (every w)
