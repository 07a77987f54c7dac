-- Short pieces of code that several rows of the scheme have in common.
use Rattle.std.specs.Prelude.{ℕ, zero, suc, ◌+◌, ◌-◌, ◌*◌, nat_lt, ℤ, pos, negsuc, Bool, true, false, if◌then◌else◌, List, [], ◌∷◌, ◌++◌}
use Rattle.pw_isa.specs.declared.instruction.Inst.{Inst}
use Rattle.pw_isa.specs.declared.instruction.Inst.TheVariants.{Jal, Bne, Beq, Bltu, Ld, Sd, Addi, Sltiu, Xori, Add, Sub, Sll, Slt, Sltu, Xor, Srl, Sra, Or, And, Mul, Div, Divu, Rem, Remu, Ecall}
use Rattle.pw_isa.specs.Registers.{x0, sp, t0, t1, a0, a1, a7}
use Rattle.pw_isa.specs.EnvironmentCalls.{fault_call, index_fault, division_fault}
use Rattle.pw_tree.specs.declared.operator.Un.{Un}
use Rattle.pw_tree.specs.declared.operator.Un.TheVariants.{Neg, Plus, Not, Bang}
use Rattle.pw_tree.specs.declared.operator.Bin.{Bin}
use Rattle.pw_tree.specs.declared.operator.Bin.TheVariants as operators
use Rattle.pw_code.specs.declared.frame.Frame.{Frame}
use Rattle.pw_code.specs.Items.{CodePart, instruction, size}
use Rattle.pw_code.specs.Frames.{held_slot}
use Rattle.pw_code.specs.LoadImmediate.{load_immediate, immediate_words}

-- ---- jumps

-- the bytes of so many words
abbrev pub bytes_of_words : ℕ → ℕ
bytes_of_words n = 4 * n

-- A jump over the n words that follow it.
abbrev pub skip : ℕ → CodePart
skip n = instruction (Jal x0 (pos (bytes_of_words (suc n))))

-- A jump back to the word that stands n words before it.
abbrev pub back : ℕ → CodePart
back zero = instruction (Jal x0 (pos 0))
back (suc n) = instruction (Jal x0 (negsuc (3 + bytes_of_words n)))

-- A jump from one word of a function to another, both counted from the function's start.
abbrev pub jump : (from to : ℕ) → CodePart
jump from to = if nat_lt to from then back (from - to) else instruction (Jal x0 (pos (bytes_of_words (to - from))))

-- The n words that follow run only where a0 is not zero. A branch reaches less far than a jump, so it goes round one.
abbrev pub unless_zero : ℕ → List CodePart
unless_zero n = instruction (Bne a0 x0 (pos (bytes_of_words 2))) ∷ skip n ∷ []

-- The n words that follow run only where a0 is zero.
abbrev pub unless_nonzero : ℕ → List CodePart
unless_nonzero n = instruction (Beq a0 x0 (pos (bytes_of_words 2))) ∷ skip n ∷ []

-- A piece of code that a branch goes past.
abbrev pub past : (ℤ → Inst) → List CodePart → List CodePart
past branch piece = instruction (branch (pos (bytes_of_words (suc (size piece))))) ∷ piece

-- ---- checked faults

-- The run ends with a checked fault of this kind, in this line.
abbrev pub fault : (kind line : ℕ) → List CodePart
fault kind line =
    instruction (Addi a0 x0 (pos kind))
    ∷ load_immediate a1 line ++ instruction (Addi a7 x0 (pos fault_call)) ∷ instruction Ecall ∷ []

-- how many words that is
abbrev pub fault_words : (line : ℕ) → ℕ
fault_words line = 3 + immediate_words line

-- An index in a0 is below the size of its array as an unsigned number, or the run ends. The size stays in t1.
abbrev pub check_index : (array_size line : ℕ) → List CodePart
check_index array_size line = load_immediate t1 array_size ++ past (Bltu a0 t1) (fault index_fault line)

-- how many words that is
abbrev pub check_index_words : (array_size line : ℕ) → ℕ
check_index_words array_size line = immediate_words array_size + suc (fault_words line)

-- ---- operators

-- A unary operator takes its operand in a0 and leaves its value there.
abbrev pub unary_code : Un → List CodePart
unary_code Neg = instruction (Sub a0 x0 a0) ∷ []
unary_code Not = instruction (Xori a0 a0 (negsuc 0)) ∷ []
unary_code Bang = instruction (Sltiu a0 a0 (pos 1)) ∷ []
unary_code Plus = []

-- The truth of a0, as 0 or 1.
abbrev pub truth_code : CodePart
truth_code = instruction (Sltu a0 x0 a0)

-- The other truth value.
abbrev pub flip_code : CodePart
flip_code = instruction (Xori a0 a0 (pos 1))

-- A divisor in a0 is not zero, or the run ends.
abbrev pub check_divisor : (line : ℕ) → List CodePart
check_divisor line = past (Bne a0 x0) (fault division_fault line)

-- the instruction that compares, as signed or unsigned numbers
abbrev pub less : (unsigned : Bool) → (rd rs1 rs2 : ℕ) → Inst
less true rd rs1 rs2 = Sltu rd rs1 rs2
less false rd rs1 rs2 = Slt rd rs1 rs2

-- the instruction that shifts right, with the sign copied in or zeros
abbrev pub shift_right : (unsigned : Bool) → (rd rs1 rs2 : ℕ) → Inst
shift_right true rd rs1 rs2 = Srl rd rs1 rs2
shift_right false rd rs1 rs2 = Sra rd rs1 rs2

-- the instruction that divides, as signed or unsigned numbers
abbrev pub divide : (unsigned : Bool) → (rd rs1 rs2 : ℕ) → Inst
divide true rd rs1 rs2 = Divu rd rs1 rs2
divide false rd rs1 rs2 = Div rd rs1 rs2

-- the instruction that gives the remainder, of signed or unsigned numbers
abbrev pub remainder : (unsigned : Bool) → (rd rs1 rs2 : ℕ) → Inst
remainder true rd rs1 rs2 = Remu rd rs1 rs2
remainder false rd rs1 rs2 = Rem rd rs1 rs2

-- A binary operator takes its left operand in t0 and its right one in a0, and leaves its value in a0. `&&` and `||` are
-- jumps and stand elsewhere.
abbrev pub binary_code : (line : ℕ) → Bin → (unsigned : Bool) → List CodePart
binary_code line operators.Mul unsigned = instruction (Mul a0 t0 a0) ∷ []
binary_code line operators.Div unsigned = check_divisor line ++ instruction (divide unsigned a0 t0 a0) ∷ []
binary_code line operators.Rem unsigned = check_divisor line ++ instruction (remainder unsigned a0 t0 a0) ∷ []
binary_code line operators.Add unsigned = instruction (Add a0 t0 a0) ∷ []
binary_code line operators.Sub unsigned = instruction (Sub a0 t0 a0) ∷ []
binary_code line operators.Shl unsigned = instruction (Sll a0 t0 a0) ∷ []
binary_code line operators.Shr unsigned = instruction (shift_right unsigned a0 t0 a0) ∷ []
binary_code line operators.Lt unsigned = instruction (less unsigned a0 t0 a0) ∷ []
binary_code line operators.Gt unsigned = instruction (less unsigned a0 a0 t0) ∷ []
binary_code line operators.Le unsigned = instruction (less unsigned a0 a0 t0) ∷ flip_code ∷ []
binary_code line operators.Ge unsigned = instruction (less unsigned a0 t0 a0) ∷ flip_code ∷ []
binary_code line operators.Eq unsigned = instruction (Xor a0 t0 a0) ∷ instruction (Sltiu a0 a0 (pos 1)) ∷ []
binary_code line operators.Ne unsigned = instruction (Xor a0 t0 a0) ∷ truth_code ∷ []
binary_code line operators.And unsigned = instruction (And a0 t0 a0) ∷ []
binary_code line operators.Xor unsigned = instruction (Xor a0 t0 a0) ∷ []
binary_code line operators.Or unsigned = instruction (Or a0 t0 a0) ∷ []
binary_code line operators.AndAnd unsigned = []
binary_code line operators.OrOr unsigned = []

-- how many words that is
abbrev pub binary_words : (line : ℕ) → Bin → ℕ
binary_words line operators.Div = 2 + fault_words line
binary_words line operators.Rem = 2 + fault_words line
binary_words line operators.Le = 2
binary_words line operators.Ge = 2
binary_words line operators.Eq = 2
binary_words line operators.Ne = 2
binary_words line operators.AndAnd = 0
binary_words line operators.OrOr = 0
binary_words line op = 1

-- how many words the code of a unary operator has
abbrev pub unary_words : Un → ℕ
unary_words Plus = 0
unary_words op = 1

-- ---- held values and arguments

-- a0 is put into a held slot
abbrev pub hold : Frame → ℕ → CodePart
hold frame h = instruction (Sd sp a0 (held_slot frame h))

-- So many registers from rd on are loaded from the held slots from h on.
unfoldable pub load_held : Frame → (h rd n : ℕ) → List CodePart
load_held frame h rd zero = []
load_held frame h rd (suc n) = instruction (Ld rd sp (held_slot frame h)) ∷ load_held frame (suc h) (suc rd) n
