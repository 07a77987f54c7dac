-- The machine's state that a processor stands for.
use Rattle.std.specs.Prelude.{ℕ, List, slice_index}
use Rattle.pw_mem.specs.Memory.{Mem}
use Rattle.pw_hart.specs.declared.hart.Hart.{Hart}
use Rattle.pw_hart.specs.State.{MachineState}

-- the registers of a hart, by their numbers
abbrev pub registers : Hart → ℕ → ℕ
registers hart r = slice_index hart.x r

-- the machine's state where a hart has this memory, this input is left, and this output was put
abbrev pub state_of : Hart → Mem → List ℕ → List ℕ → MachineState
state_of hart mem input output =
    record { x = registers hart; pc = hart.pc; steps = hart.steps; mem = mem; input = input; output = output }
