-- The machine's state, and what one instruction leaves: a next state, or an end.
use Rattle.std.specs.Prelude.{ℕ, zero, suc, ◌+◌, ◌%◌, ◌^◌, nat_eq, List, if◌then◌else◌}
use Rattle.pw_hart.specs.declared.ends.End.{End}
use Rattle.pw_mem.specs.Memory.{Mem}

-- registers by their numbers, the program counter, the counted steps left, the memory, the input left and the output so far
pub record MachineState : Type 0 where
  pub x : ℕ → ℕ
  pub pc : ℕ
  pub steps : ℕ
  pub mem : Mem
  pub input : List ℕ
  pub output : List ℕ

-- what a register reads as: x0 is 0
abbrev pub get : (ℕ → ℕ) → ℕ → ℕ
get x zero = 0
get x (suc r) = x (suc r)

-- the registers after a write; a write to x0 is dropped
abbrev pub set : (ℕ → ℕ) → ℕ → ℕ → ℕ → ℕ
set x zero value = x
set x (suc r) value = λ k. if nat_eq k (suc r) then value else x k

-- what one instruction does: the run goes on in a state, or it ends there
pub data Next : Type 0 where
  Goes : MachineState → Next
  Ends : End → MachineState → Next

-- the address of the next instruction
abbrev pub following : MachineState → ℕ
following s = (s.pc + 4) % 2 ^ 64

-- the run goes on after the instruction, with these registers
abbrev pub goes_on : (ℕ → ℕ) → MachineState → Next
goes_on x s = Goes (record s { x = x; pc = following s })

-- a value is written to rd, and the run goes on after the instruction
abbrev pub writes : ℕ → ℕ → MachineState → Next
writes rd value s = goes_on (set s.x rd value) s
