-- What it means that a call does what an instruction does.
use Rattle.std.specs.Prelude.{◌≡◌, ℕ, List, Option, Some, None}
use Rattle.pw_mem.specs.Memory.{Mem}
use Rattle.pw_hart.specs.declared.hart.Hart.{Hart}
use Rattle.pw_hart.specs.declared.ends.End.{End}
use Rattle.pw_hart.specs.State.{MachineState, Next, Goes, Ends}
use Rattle.pw_hart.specs.Harts.{state_of}

-- what is next in a state: the run goes on, or ends
abbrev pub next_of : Option End → MachineState → Next
next_of None s = Goes s
next_of (Some end) s = Ends end s

-- a call answers and leaves what an instruction does to a hart and a memory, whatever the input and the output are
abbrev pub Does : (MachineState → Next) → Hart → Mem → Option End → Hart → Mem → Type 0
Does instruction old mem result new left =
    (input output : List ℕ) → instruction (state_of old mem input output) ≡ next_of result (state_of new left input output)
