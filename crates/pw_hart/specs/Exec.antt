-- What each instruction does, one clause an instruction, in the order and the words of the RISC-V unprivileged manual (RV64I and M).
use Rattle.std.specs.Prelude.{ℕ, zero, suc, ◌-◌, ◌*◌, ◌%◌, ◌^◌, ◌==◌, Bool, true, false, not, ◌&&◌, ◌||◌, nat_eq, nat_lt, nat_le, bit_and, bit_or, bit_xor, List, [], ◌∷◌, ◌++◌, ℤ, if◌then◌else◌, Result, Ok, Err}
use Rattle.std.specs.Int.{w8, w16, w32}
use Rattle.pw_isa.specs.declared.instruction.Inst.{Inst}
use Rattle.pw_isa.specs.declared.instruction.Inst.TheVariants.{Lui, Auipc, Jal, Jalr, Beq, Bne, Blt, Bge, Bltu, Bgeu, Lb, Lh, Lw, Ld, Lbu, Lhu, Lwu, Sb, Sh, Sw, Sd, Addi, Slti, Sltiu, Xori, Ori, Andi, Slli, Srli, Srai, Add, Sub, Sll, Slt, Sltu, Xor, Srl, Sra, Or, And, Mul, Mulh, Mulhsu, Mulhu, Div, Divu, Rem, Remu, Addiw, Slliw, Srliw, Sraiw, Addw, Subw, Sllw, Srlw, Sraw, Mulw, Divw, Divuw, Remw, Remuw, Fence, Ecall, Ebreak}
use Rattle.pw_isa.specs.Registers.{ra, a0, a1, a7}
use Rattle.pw_isa.specs.EnvironmentCalls.{exit_call, input_call, output_call, fault_call, index_fault, depth_fault}
use Rattle.pw_mem.specs.Memory.{Mem, load, store}
use Rattle.pw_mem.specs.declared.errors.Access.{Access}
use Rattle.pw_mem.specs.declared.errors.Access.TheVariants.{Misaligned, Unmapped, Denied}
use Rattle.pw_hart.specs.declared.ends.End.TheVariants.{Exit, Checked, Spent, Trap}
use Rattle.pw_hart.specs.Bits.{bits64, sign_extend64, zero_extend, all_ones}
use Rattle.pw_hart.specs.Integer.{add, sub, sll, slt, sltu, srl, sra, is_less_signed}
use Rattle.pw_hart.specs.Word.{addw, subw, sllw, srlw, sraw}
use Rattle.pw_hart.specs.Multiply.{mul, mulh, mulhsu, mulhu, div, divu, rem, remu, mulw, divw, divuw, remw, remuw}
use Rattle.pw_hart.specs.State.{MachineState, get, set, Next, Goes, Ends, following, goes_on, writes}

-- ---- values: register by register, register by immediate, register by a count, and the upper immediates

-- rd gets what an operation gives for rs1 and rs2
abbrev pub by_register : (ℕ → ℕ → ℕ) → ℕ → ℕ → ℕ → MachineState → Next
by_register operation rd rs1 rs2 s = writes rd (operation (get s.x rs1) (get s.x rs2)) s

-- rd gets what an operation gives for rs1 and the sign-extended immediate
abbrev pub by_immediate : (ℕ → ℕ → ℕ) → ℕ → ℕ → ℤ → MachineState → Next
by_immediate operation rd rs1 imm s = writes rd (operation (get s.x rs1) (bits64 imm)) s

-- rd gets what an operation gives for rs1 and a count of places
abbrev pub by_count : (ℕ → ℕ → ℕ) → ℕ → ℕ → ℕ → MachineState → Next
by_count operation rd rs1 count s = writes rd (operation (get s.x rs1) count) s

-- an immediate of 20 bits in the places above the lowest 12, sign-extended
abbrev pub upper : ℤ → ℕ
upper imm = (bits64 imm * 2 ^ 12) % 2 ^ 64

-- ---- jumps and branches

-- the run goes on at the target, with these steps left and these registers
abbrev pub lands : ℕ → ℕ → (ℕ → ℕ) → MachineState → Next
lands steps target x s = Goes (record s { x = x; pc = target; steps = steps })

-- a counted jump takes a step, and where none is left the run ends as spent
abbrev pub takes_step : Bool → ℕ → ℕ → (ℕ → ℕ) → MachineState → Next
takes_step false left target x s = lands left target x s
takes_step true zero target x s = Ends Spent s
takes_step true (suc left) target x s = lands left target x s

-- a jump that is taken: a misaligned target traps first, with nothing written
abbrev pub jumps : Bool → ℕ → (ℕ → ℕ) → MachineState → Next
jumps counted target x s =
    if target % 4 == 0 then takes_step counted s.steps target x s else Ends (Trap 0 s.pc target) s

-- whether a target is not above the instruction, so that the run may go round
abbrev pub goes_back : ℕ → MachineState → Bool
goes_back target s = nat_le target s.pc

-- a jump that writes the address after it to rd: a call, with rd = x1, and a jump back are counted
abbrev pub jumps_and_links : ℕ → ℕ → Bool → MachineState → Next
jumps_and_links rd target counted s = jumps (rd == ra || counted) target (set s.x rd (following s)) s

-- a branch that is taken or not: taken backwards it is counted
abbrev pub branches_if : Bool → ℤ → MachineState → Next
branches_if true imm s = let target = add s.pc (bits64 imm) in jumps (goes_back target s) target s.x s
branches_if false imm s = goes_on s.x s

-- a branch on a test of rs1 and rs2
abbrev pub branches_on : (ℕ → ℕ → Bool) → ℕ → ℕ → ℤ → MachineState → Next
branches_on test rs1 rs2 imm s = branches_if (test (get s.x rs1) (get s.x rs2)) imm s

-- ---- loads and stores

-- the address that a load or a store means
abbrev pub effective : ℕ → ℤ → MachineState → ℕ
effective rs1 imm s = add (get s.x rs1) (bits64 imm)

-- what a load from an address does with the memory's answer: rd gets the value extended, or it traps
abbrev pub loaded : (ℕ → ℕ) → ℕ → ℕ → MachineState → Result ℕ Access → Next
loaded extend rd at s (Ok value) = writes rd (extend value) s
loaded extend rd at s (Err Misaligned) = Ends (Trap 4 s.pc at) s
loaded extend rd at s (Err Unmapped) = Ends (Trap 5 s.pc at) s
loaded extend rd at s (Err Denied) = Ends (Trap 5 s.pc at) s

-- what a store to an address does with the memory's answer
abbrev pub stored : ℕ → MachineState → Result Mem Access → Next
stored at s (Ok mem) = Goes (record s { mem = mem; pc = following s })
stored at s (Err Misaligned) = Ends (Trap 6 s.pc at) s
stored at s (Err Unmapped) = Ends (Trap 7 s.pc at) s
stored at s (Err Denied) = Ends (Trap 7 s.pc at) s

-- rd gets the number of so many bytes at an address, extended to 64 bits
abbrev pub loads_from : (ℕ → ℕ) → ℕ → ℕ → ℕ → ℤ → MachineState → Next
loads_from extend width rd rs1 imm s =
    let at = effective rs1 imm s in loaded extend rd at s (load s.mem at width)

-- the lowest bytes of rs2 are stored at an address
abbrev pub stores_to : ℕ → ℕ → ℕ → ℤ → MachineState → Next
stores_to width rs1 rs2 imm s =
    let at = effective rs1 imm s in stored at s (store s.mem at width (get s.x rs2))

-- ---- environment calls, by a7

-- the next byte of the input goes to a0, or all ones at its end
abbrev pub takes_input : List ℕ → MachineState → Next
takes_input [] s = writes a0 all_ones s
takes_input (byte ∷ rest) s = writes a0 byte (record s { input = rest })

-- the lowest byte of a0 is appended to the output
abbrev pub puts_output : MachineState → Next
puts_output s = goes_on s.x (record s { output = s.output ++ zero_extend w8 (get s.x a0) ∷ [] })

-- whether a number names a kind of checked fault
abbrev pub is_fault_kind : ℕ → Bool
is_fault_kind kind = nat_le index_fault kind && nat_le kind depth_fault

-- an exit with a0, a byte of input, a byte of output, or a checked fault of the kind a0 in the line a1; other numbers trap
abbrev pub calls_environment : ℕ → MachineState → Next
calls_environment number s =
    if number == exit_call then Ends (Exit (get s.x a0)) s
    else (if number == input_call then takes_input s.input s
    else (if number == output_call then puts_output s
    else (if number == fault_call && is_fault_kind (get s.x a0) then Ends (Checked (get s.x a0) (get s.x a1) s.pc) s
    else Ends (Trap 8 s.pc number) s)))

-- ---- the table

-- what each instruction does
abbrev pub exec : Inst → MachineState → Next
-- integer computational instructions, register by immediate
exec (Addi rd rs1 imm) = by_immediate add rd rs1 imm
exec (Slti rd rs1 imm) = by_immediate slt rd rs1 imm
exec (Sltiu rd rs1 imm) = by_immediate sltu rd rs1 imm
exec (Andi rd rs1 imm) = by_immediate bit_and rd rs1 imm
exec (Ori rd rs1 imm) = by_immediate bit_or rd rs1 imm
exec (Xori rd rs1 imm) = by_immediate bit_xor rd rs1 imm
exec (Slli rd rs1 count) = by_count sll rd rs1 count
exec (Srli rd rs1 count) = by_count srl rd rs1 count
exec (Srai rd rs1 count) = by_count sra rd rs1 count
exec (Lui rd imm) = λ s. writes rd (upper imm) s
exec (Auipc rd imm) = λ s. writes rd (add s.pc (upper imm)) s
-- register by register
exec (Add rd rs1 rs2) = by_register add rd rs1 rs2
exec (Slt rd rs1 rs2) = by_register slt rd rs1 rs2
exec (Sltu rd rs1 rs2) = by_register sltu rd rs1 rs2
exec (And rd rs1 rs2) = by_register bit_and rd rs1 rs2
exec (Or rd rs1 rs2) = by_register bit_or rd rs1 rs2
exec (Xor rd rs1 rs2) = by_register bit_xor rd rs1 rs2
exec (Sll rd rs1 rs2) = by_register sll rd rs1 rs2
exec (Srl rd rs1 rs2) = by_register srl rd rs1 rs2
exec (Sub rd rs1 rs2) = by_register sub rd rs1 rs2
exec (Sra rd rs1 rs2) = by_register sra rd rs1 rs2
-- unconditional jumps; rs1 is read before rd is written, and the lowest bit of the target is cleared
exec (Jal rd imm) = λ s. let target = add s.pc (bits64 imm) in jumps_and_links rd target (goes_back target s) s
exec (Jalr rd rs1 imm) = λ s.
    let target = effective rs1 imm s - effective rs1 imm s % 2 in
    jumps_and_links rd target (not (rd == 0) && goes_back target s) s
-- conditional branches
exec (Beq rs1 rs2 imm) = branches_on nat_eq rs1 rs2 imm
exec (Bne rs1 rs2 imm) = branches_on (λ a b. not (a == b)) rs1 rs2 imm
exec (Blt rs1 rs2 imm) = branches_on is_less_signed rs1 rs2 imm
exec (Bltu rs1 rs2 imm) = branches_on nat_lt rs1 rs2 imm
exec (Bge rs1 rs2 imm) = branches_on (λ a b. not (is_less_signed a b)) rs1 rs2 imm
exec (Bgeu rs1 rs2 imm) = branches_on (λ a b. not (nat_lt a b)) rs1 rs2 imm
-- loads and stores
exec (Ld rd rs1 imm) = loads_from (λ value. value) 8 rd rs1 imm
exec (Lw rd rs1 imm) = loads_from (sign_extend64 w32) 4 rd rs1 imm
exec (Lwu rd rs1 imm) = loads_from (zero_extend w32) 4 rd rs1 imm
exec (Lh rd rs1 imm) = loads_from (sign_extend64 w16) 2 rd rs1 imm
exec (Lhu rd rs1 imm) = loads_from (zero_extend w16) 2 rd rs1 imm
exec (Lb rd rs1 imm) = loads_from (sign_extend64 w8) 1 rd rs1 imm
exec (Lbu rd rs1 imm) = loads_from (zero_extend w8) 1 rd rs1 imm
exec (Sd rs1 rs2 imm) = stores_to 8 rs1 rs2 imm
exec (Sw rs1 rs2 imm) = stores_to 4 rs1 rs2 imm
exec (Sh rs1 rs2 imm) = stores_to 2 rs1 rs2 imm
exec (Sb rs1 rs2 imm) = stores_to 1 rs1 rs2 imm
-- memory ordering, environment call and breakpoint
exec Fence = λ s. goes_on s.x s
exec Ecall = λ s. calls_environment (get s.x a7) s
exec Ebreak = λ s. Ends (Trap 3 s.pc 0) s
-- RV64I: the W forms
exec (Addiw rd rs1 imm) = by_immediate addw rd rs1 imm
exec (Slliw rd rs1 count) = by_count sllw rd rs1 count
exec (Srliw rd rs1 count) = by_count srlw rd rs1 count
exec (Sraiw rd rs1 count) = by_count sraw rd rs1 count
exec (Addw rd rs1 rs2) = by_register addw rd rs1 rs2
exec (Subw rd rs1 rs2) = by_register subw rd rs1 rs2
exec (Sllw rd rs1 rs2) = by_register sllw rd rs1 rs2
exec (Srlw rd rs1 rs2) = by_register srlw rd rs1 rs2
exec (Sraw rd rs1 rs2) = by_register sraw rd rs1 rs2
-- the M extension
exec (Mul rd rs1 rs2) = by_register mul rd rs1 rs2
exec (Mulh rd rs1 rs2) = by_register mulh rd rs1 rs2
exec (Mulhsu rd rs1 rs2) = by_register mulhsu rd rs1 rs2
exec (Mulhu rd rs1 rs2) = by_register mulhu rd rs1 rs2
exec (Mulw rd rs1 rs2) = by_register mulw rd rs1 rs2
exec (Div rd rs1 rs2) = by_register div rd rs1 rs2
exec (Divu rd rs1 rs2) = by_register divu rd rs1 rs2
exec (Rem rd rs1 rs2) = by_register rem rd rs1 rs2
exec (Remu rd rs1 rs2) = by_register remu rd rs1 rs2
exec (Divw rd rs1 rs2) = by_register divw rd rs1 rs2
exec (Divuw rd rs1 rs2) = by_register divuw rd rs1 rs2
exec (Remw rd rs1 rs2) = by_register remw rd rs1 rs2
exec (Remuw rd rs1 rs2) = by_register remuw rd rs1 rs2
