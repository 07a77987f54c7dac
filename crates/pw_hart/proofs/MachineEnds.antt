-- An instruction never ends as the input's or the output's failure does, nor at the limit.
use Rattle.std.proofs.Common.{ℕ, zero, suc, Bool, true, false, List, [], ◌∷◌, Result, Ok, Err, ◌%◌}
use Rattle.std.specs.Prelude.{ℤ, nat_eq, if◌then◌else◌}
use Rattle.pw_isa.specs.declared.instruction.Inst.{Inst}
use Rattle.pw_isa.specs.declared.instruction.Inst.TheVariants.{Lui, Auipc, Jal, Jalr, Beq, Bne, Blt, Bge, Bltu, Bgeu, Lb, Lh, Lw, Lbu, Lhu, Sb, Sh, Sw, Addi, Slti, Sltiu, Xori, Ori, Andi, Add, Sub, Sll, Slt, Sltu, Xor, Srl, Sra, Or, And, Fence, Ecall, Ebreak, Lwu, Ld, Sd, Slli, Srli, Srai, Addiw, Slliw, Srliw, Sraiw, Addw, Subw, Sllw, Srlw, Sraw, Mul, Mulh, Mulhsu, Mulhu, Div, Divu, Rem, Remu, Mulw, Divw, Divuw, Remw, Remuw}
use Rattle.pw_mem.specs.Memory.{Mem, load, store}
use Rattle.pw_mem.specs.declared.errors.Access.{Access}
use Rattle.pw_mem.specs.declared.errors.Access.TheVariants.{Misaligned, Unmapped, Denied}
use Rattle.pw_hart.specs.declared.ends.End.TheVariants.{Exit, Checked, Trap}
use Rattle.pw_hart.specs.State.{MachineState, Next, Goes, Ends, get}
use Rattle.pw_hart.specs.Exec.{exec, jumps, takes_step, branches_if, loaded, stored, effective, takes_input, puts_output}
use Rattle.pw_hart.specs.Steps.Advances.{IsMachines}

-- what is next is a state, or an end of the machine's own
abbrev pub IsMachinesNext : Next → Type 0
IsMachinesNext (Goes s) = Unit {0}
IsMachinesNext (Ends end s) = IsMachines end

takes_step_is : (counted : Bool) (left target : ℕ) (x : ℕ → ℕ) (s : MachineState) → IsMachinesNext (takes_step counted left target x s)
takes_step_is false left target x s = tt
takes_step_is true zero target x s = tt
takes_step_is true (suc left) target x s = tt

jumps_is : (counted : Bool) (target : ℕ) (x : ℕ → ℕ) (s : MachineState) → IsMachinesNext (jumps counted target x s)
jumps_is counted target x s = by_test (nat_eq (target % 4) 0)
  where
    by_test : (aligned : Bool) → IsMachinesNext (if aligned then takes_step counted s.steps target x s else Ends (Trap 0 s.pc target) s)
    by_test true = takes_step_is counted s.steps target x s
    by_test false = tt

branches_if_is : (taken : Bool) (imm : ℤ) (s : MachineState) → IsMachinesNext (branches_if taken imm s)
branches_if_is true imm s = jumps_is _ _ _ s
branches_if_is false imm s = tt

loaded_is : (extend : ℕ → ℕ) (rd at : ℕ) (s : MachineState) (r : Result ℕ Access) → IsMachinesNext (loaded extend rd at s r)
loaded_is extend rd at s (Ok value) = tt
loaded_is extend rd at s (Err Misaligned) = tt
loaded_is extend rd at s (Err Unmapped) = tt
loaded_is extend rd at s (Err Denied) = tt

stored_is : (at : ℕ) (s : MachineState) (r : Result Mem Access) → IsMachinesNext (stored at s r)
stored_is at s (Ok mem) = tt
stored_is at s (Err Misaligned) = tt
stored_is at s (Err Unmapped) = tt
stored_is at s (Err Denied) = tt

takes_input_is : (input : List ℕ) (s : MachineState) → IsMachinesNext (takes_input input s)
takes_input_is [] s = tt
takes_input_is (byte ∷ rest) s = tt

calls_is : (exits takes puts checks : Bool) (number : ℕ) (s : MachineState) → IsMachinesNext
    (if exits then Ends (Exit (get s.x 10)) s
    else (if takes then takes_input s.input s
    else (if puts then puts_output s
    else (if checks then Ends (Checked (get s.x 10) (get s.x 11) s.pc) s
    else Ends (Trap 8 s.pc number) s))))
calls_is true takes puts checks number s = tt
calls_is false true puts checks number s = takes_input_is s.input s
calls_is false false true checks number s = tt
calls_is false false false true number s = tt
calls_is false false false false number s = tt

pub exec_is : (inst : Inst) (s : MachineState) → IsMachinesNext (exec inst s)
exec_is (Lui rd imm) s = tt
exec_is (Auipc rd imm) s = tt
exec_is (Jal rd imm) s = jumps_is _ _ _ s
exec_is (Jalr rd rs1 imm) s = jumps_is _ _ _ s
exec_is (Beq rs1 rs2 imm) s = branches_if_is _ imm s
exec_is (Bne rs1 rs2 imm) s = branches_if_is _ imm s
exec_is (Blt rs1 rs2 imm) s = branches_if_is _ imm s
exec_is (Bge rs1 rs2 imm) s = branches_if_is _ imm s
exec_is (Bltu rs1 rs2 imm) s = branches_if_is _ imm s
exec_is (Bgeu rs1 rs2 imm) s = branches_if_is _ imm s
exec_is (Lb rd rs1 imm) s = loaded_is _ rd _ s (load s.mem (effective rs1 imm s) 1)
exec_is (Lh rd rs1 imm) s = loaded_is _ rd _ s (load s.mem (effective rs1 imm s) 2)
exec_is (Lw rd rs1 imm) s = loaded_is _ rd _ s (load s.mem (effective rs1 imm s) 4)
exec_is (Ld rd rs1 imm) s = loaded_is _ rd _ s (load s.mem (effective rs1 imm s) 8)
exec_is (Lbu rd rs1 imm) s = loaded_is _ rd _ s (load s.mem (effective rs1 imm s) 1)
exec_is (Lhu rd rs1 imm) s = loaded_is _ rd _ s (load s.mem (effective rs1 imm s) 2)
exec_is (Lwu rd rs1 imm) s = loaded_is _ rd _ s (load s.mem (effective rs1 imm s) 4)
exec_is (Sb rs1 rs2 imm) s = stored_is _ s (store s.mem (effective rs1 imm s) 1 (get s.x rs2))
exec_is (Sh rs1 rs2 imm) s = stored_is _ s (store s.mem (effective rs1 imm s) 2 (get s.x rs2))
exec_is (Sw rs1 rs2 imm) s = stored_is _ s (store s.mem (effective rs1 imm s) 4 (get s.x rs2))
exec_is (Sd rs1 rs2 imm) s = stored_is _ s (store s.mem (effective rs1 imm s) 8 (get s.x rs2))
exec_is (Addi rd rs1 imm) s = tt
exec_is (Slti rd rs1 imm) s = tt
exec_is (Sltiu rd rs1 imm) s = tt
exec_is (Xori rd rs1 imm) s = tt
exec_is (Ori rd rs1 imm) s = tt
exec_is (Andi rd rs1 imm) s = tt
exec_is (Addiw rd rs1 imm) s = tt
exec_is (Slli rd rs1 count) s = tt
exec_is (Srli rd rs1 count) s = tt
exec_is (Srai rd rs1 count) s = tt
exec_is (Slliw rd rs1 count) s = tt
exec_is (Srliw rd rs1 count) s = tt
exec_is (Sraiw rd rs1 count) s = tt
exec_is (Add rd rs1 rs2) s = tt
exec_is (Sub rd rs1 rs2) s = tt
exec_is (Sll rd rs1 rs2) s = tt
exec_is (Slt rd rs1 rs2) s = tt
exec_is (Sltu rd rs1 rs2) s = tt
exec_is (Xor rd rs1 rs2) s = tt
exec_is (Srl rd rs1 rs2) s = tt
exec_is (Sra rd rs1 rs2) s = tt
exec_is (Or rd rs1 rs2) s = tt
exec_is (And rd rs1 rs2) s = tt
exec_is (Mul rd rs1 rs2) s = tt
exec_is (Mulh rd rs1 rs2) s = tt
exec_is (Mulhsu rd rs1 rs2) s = tt
exec_is (Mulhu rd rs1 rs2) s = tt
exec_is (Div rd rs1 rs2) s = tt
exec_is (Divu rd rs1 rs2) s = tt
exec_is (Rem rd rs1 rs2) s = tt
exec_is (Remu rd rs1 rs2) s = tt
exec_is (Addw rd rs1 rs2) s = tt
exec_is (Subw rd rs1 rs2) s = tt
exec_is (Sllw rd rs1 rs2) s = tt
exec_is (Srlw rd rs1 rs2) s = tt
exec_is (Sraw rd rs1 rs2) s = tt
exec_is (Mulw rd rs1 rs2) s = tt
exec_is (Divw rd rs1 rs2) s = tt
exec_is (Divuw rd rs1 rs2) s = tt
exec_is (Remw rd rs1 rs2) s = tt
exec_is (Remuw rd rs1 rs2) s = tt
exec_is Fence s = tt
exec_is Ecall s = calls_is _ _ _ _ _ s
exec_is Ebreak s = tt
