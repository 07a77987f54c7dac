-- A step of the machine, and a run of at most so many steps.
use Rattle.std.specs.Prelude.{ℕ, zero, suc, List, [], ◌∷◌, Option, Some, None, Result, Ok, Err}
use Rattle.pw_isa.specs.Encoding.{decoded}
use Rattle.pw_isa.specs.declared.instruction.Inst.{Inst}
use Rattle.pw_mem.specs.Memory.{fetch}
use Rattle.pw_mem.specs.declared.errors.Access.{Access}
use Rattle.pw_hart.specs.declared.ends.End.{End}
use Rattle.pw_hart.specs.declared.ends.End.TheVariants.{Trap, Limit}
use Rattle.pw_hart.specs.State.{MachineState, Next, Goes, Ends}
use Rattle.pw_hart.specs.Exec.{exec}

-- what an instruction word does that may be an instruction
abbrev pub carries_out : ℕ → MachineState → Option Inst → Next
carries_out word s (Some inst) = exec inst s
carries_out word s None = Ends (Trap 2 s.pc word) s

-- what the memory's answer to the fetch does
abbrev pub fetches : MachineState → Result ℕ Access → Next
fetches s (Ok word) = carries_out word s (decoded word)
fetches s (Err refusal) = Ends (Trap 1 s.pc s.pc) s

-- one instruction: it is fetched at the pc, decoded and carried out
abbrev pub step : MachineState → Next
step s = fetches s (fetch s.mem s.pc)

-- how a run ends, the state that it leaves, and the addresses that it fetched from
pub record RunResult : Type 0 where
  pub end : End
  pub state : MachineState
  pub fetched : List ℕ

-- a result, with one more fetch before the others
abbrev pub fetching : ℕ → RunResult → RunResult
fetching at o = record o { fetched = at ∷ o.fetched }

-- how a run goes on once one instruction was carried out
abbrev pub then : (MachineState → RunResult) → Next → RunResult
then rest (Goes s) = rest s
then rest (Ends end s) = record { end = end; state = s; fetched = [] }

-- the run of at most so many steps, up to the first end
abbrev pub run : ℕ → MachineState → RunResult
run zero s = record { end = Limit; state = s; fetched = [] }
run (suc n) s = fetching s.pc (then (run n) (step s))
