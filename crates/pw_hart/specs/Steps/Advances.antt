-- One instruction at a time: what it takes from an input that may have come to its end, what it appends to an output, and how it moves the run on.
use Rattle.std.specs.Prelude.{◌≡◌, ℕ, Bool, true, List, [], ◌∷◌, ◌++◌, Option, Some, None, IfSome}
use Rattle.pw_base.specs.Bytes.{AreBytes}
use Rattle.pw_isa.specs.declared.instruction.Inst.TheVariants.{Ecall}
use Rattle.pw_isa.specs.Registers.{a7}
use Rattle.pw_isa.specs.EnvironmentCalls.{input_call, output_call}
use Rattle.pw_mem.specs.Memory.{Mem}
use Rattle.pw_mem.specs.States.{AddsFetches}
use Rattle.pw_io.specs.Source.{SourceState, SourceFails, after}
use Rattle.pw_io.specs.Sink.{SinkState, SinkFails, wrote}
use Rattle.pw_hart.specs.declared.hart.Hart.{Hart}
use Rattle.pw_hart.specs.declared.ends.End.{End}
use Rattle.pw_hart.specs.declared.ends.End.TheVariants.{ReadFault, WriteFault, Limit}
use Rattle.pw_hart.specs.State.{MachineState, Next, Goes, Ends, get}
use Rattle.pw_hart.specs.Exec.{exec, takes_input, puts_output}
use Rattle.pw_hart.specs.Run.{step}
use Rattle.pw_hart.specs.Harts.{registers, state_of}
use Rattle.pw_hart.specs.Runs.{ExecutionState, IsLeft, FailsToRead, FailsToWrite}

-- an end that the machine itself has: not that of the input or the output, and not the limit
abbrev pub IsMachines : End → Type 0
IsMachines ReadFault = ⊥
IsMachines WriteFault = ⊥
IsMachines Limit = ⊥
IsMachines end = Unit {0}

-- an input, whether it came to its end before, and an output
pub record Ports : Type 0 where
  pub input : SourceState
  pub used_up : Bool
  pub out : SinkState

-- these numbers may be what is left in an input, which came to its end before or did not: bytes, where those that are reported are
pub record CanBeLeft (input : SourceState) (used_up : Bool) (left : List ℕ) : Type 0 where
  pub is_left : IsLeft left input
  pub none : used_up ≡ true → left ≡ []
  pub bytes : IfSome input.left AreBytes → AreBytes left

-- what an instruction does with bytes that were taken from the input and appended to the output, whatever is left in the
-- input after them and was put before
pub record Uses (instruction : MachineState → Next) (old : Ports) (hart : Hart) (mem : Mem) (new : Ports)
    (hart' : Hart) (mem' : Mem) (next : MachineState → Next) : Type 0 where
  pub taken : List ℕ
  pub put : List ℕ
  pub input : new.input ≡ after taken old.input
  pub out : new.out ≡ wrote put old.out
  pub offered : (rest : List ℕ) → CanBeLeft new.input new.used_up rest → CanBeLeft old.input old.used_up (taken ++ rest)
  pub leaves : (left : List ℕ) → CanBeLeft old.input old.used_up left → (rest : List ℕ) × CanBeLeft new.input new.used_up rest
  pub does : (rest output : List ℕ) → CanBeLeft new.input new.used_up rest →
      instruction (state_of hart mem (taken ++ rest) output) ≡ next (state_of hart' mem' rest (output ++ put))

-- the call of input moves the processor on, or fails and leaves it
abbrev pub TakesInput : SourceState → Bool → Hart → SourceState → Bool → Hart → Option End → Type 0
TakesInput old used_up hart new used_up' hart' None =
    (mem : Mem) (out : SinkState) → Uses (λ s. takes_input s.input s) (record { input = old; used_up = used_up; out = out }) hart mem
    (record { input = new; used_up = used_up'; out = out }) hart' mem Goes
TakesInput old used_up hart new used_up' hart' (Some ReadFault) = SourceFails old new × (hart' ≡ hart)
TakesInput old used_up hart new used_up' hart' (Some end) = ⊥

-- the call of output moves the processor on, or fails and leaves it
abbrev pub PutsOutput : SinkState → Hart → SinkState → Hart → Option End → Type 0
PutsOutput old hart new hart' None =
    (mem : Mem) (input : SourceState) (used_up : Bool) → Uses puts_output (record { input = input; used_up = used_up; out = old }) hart mem
    (record { input = input; used_up = used_up; out = new }) hart' mem Goes
PutsOutput old hart new hart' (Some WriteFault) = SinkFails old new × (hart' ≡ hart)
PutsOutput old hart new hart' (Some end) = ⊥

-- the input failed at its call, and nothing else changed
pub record InputFails (old : Ports) (hart : Hart) (new : Ports) (hart' : Hart) : Type 0 where
  pub call : get (registers hart) a7 ≡ input_call
  pub stays : hart' ≡ hart
  pub input : SourceFails old.input new.input
  pub out : new.out ≡ old.out

-- the output failed at its call, and nothing else changed
pub record OutputFails (old : Ports) (hart : Hart) (new : Ports) (hart' : Hart) : Type 0 where
  pub call : get (registers hart) a7 ≡ output_call
  pub stays : hart' ≡ hart
  pub input : new.input ≡ old.input
  pub out : SinkFails old.out new.out

-- what an environment call answers and leaves
abbrev pub CallsEnvironment : Ports → Hart → Ports → Hart → Option End → Type 0
CallsEnvironment old hart new hart' None = (mem : Mem) → Uses (exec Ecall) old hart mem new hart' mem Goes
CallsEnvironment old hart new hart' (Some ReadFault) = InputFails old hart new hart'
CallsEnvironment old hart new hart' (Some WriteFault) = OutputFails old hart new hart'
CallsEnvironment old hart new hart' (Some Limit) = ⊥
CallsEnvironment old hart new hart' (Some end) = (mem : Mem) → Uses (exec Ecall) old hart mem new hart' mem (Ends end)

-- the ports of an execution
abbrev pub ports : ExecutionState → Bool → Ports
ports m used_up = record { input = m.input; used_up = used_up; out = m.out }

-- one step of the machine, from a state of an execution to the next
pub record MachineStep (old : ExecutionState) (used_up : Bool) (new : ExecutionState) (used_up' : Bool) (next : MachineState → Next) : Type 0 where
  pub fetches : AddsFetches (old.hart.pc ∷ []) old.memory new.memory
  pub uses : Uses step (ports old used_up) old.hart old.memory.mem (ports new used_up') new.hart new.memory.mem next

-- what one instruction answers and leaves: nothing where the run goes on, or how it ends
abbrev pub Advances : ExecutionState → Bool → ExecutionState → Bool → Option End → Type 0
Advances old used_up new used_up' None = MachineStep old used_up new used_up' Goes
Advances old used_up new used_up' (Some ReadFault) = FailsToRead old new
Advances old used_up new used_up' (Some WriteFault) = FailsToWrite old new
Advances old used_up new used_up' (Some Limit) = ⊥
Advances old used_up new used_up' (Some end) = MachineStep old used_up new used_up' (Ends end)
