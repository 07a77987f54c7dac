-- What a call of the processor answers and leaves: the machine's run, with the memory, the input and the output that it was given.
use Rattle.std.specs.Prelude.{◌≡◌, ℕ, ◌<◌, List, [], ◌∷◌, ◌++◌, Some, Ok, IfSome}
use Rattle.pw_base.specs.Bytes.{AreBytes}
use Rattle.pw_isa.specs.Encoding.{decoded}
use Rattle.pw_isa.specs.declared.instruction.Inst.TheVariants.{Ecall}
use Rattle.pw_isa.specs.Registers.{a7}
use Rattle.pw_isa.specs.EnvironmentCalls.{input_call, output_call}
use Rattle.pw_mem.specs.Memory.{fetch}
use Rattle.pw_mem.specs.States.{MemoryState, AddsFetches}
use Rattle.pw_io.specs.Source.{SourceState, SourceFails, after}
use Rattle.pw_io.specs.Sink.{SinkState, SinkFails, wrote}
use Rattle.pw_hart.specs.declared.hart.Hart.{Hart}
use Rattle.pw_hart.specs.declared.ends.End.{End}
use Rattle.pw_hart.specs.declared.ends.End.TheVariants.{ReadFault, WriteFault, Limit}
use Rattle.pw_hart.specs.State.{MachineState, get}
use Rattle.pw_hart.specs.Run.{RunResult, run}
use Rattle.pw_hart.specs.Harts.{state_of}

-- the state of an execution: a processor and what it is given, which is a memory with its fetches, an input, and an output
pub record ExecutionState : Type 0 where
  pub hart : Hart
  pub memory : MemoryState
  pub input : SourceState
  pub out : SinkState

-- these bytes are what is left in the input, where it reports that
abbrev pub IsLeft : List ℕ → SourceState → Type 0
IsLeft bytes input = IfSome input.left (λ left. left ≡ bytes)

-- the machine's state in an execution, where this input is left and nothing is put yet
abbrev pub state_at : ExecutionState → List ℕ → MachineState
state_at m input = state_of m.hart m.memory.mem input []

-- an execution has come to a result of the machine: it has its state, the input without what was taken, the output with
-- what was put, and its fetches counted
pub record HasResult (old : ExecutionState) (input : List ℕ) (o : RunResult) (new : ExecutionState) : Type 0 where
  pub taken : List ℕ
  pub took : input ≡ taken ++ o.state.input
  pub left : new.input ≡ after taken old.input
  pub put : new.out ≡ wrote o.state.output old.out
  pub state : o.state ≡ state_of new.hart new.memory.mem o.state.input o.state.output
  pub fetches : AddsFetches o.fetched old.memory new.memory

-- the machine's run of at most `n` instructions ends so and leaves that, with the input that is left, or with some input
-- where it is not reported
pub record RunsTo (n : ℕ) (old new : ExecutionState) (end : End) : Type 0 where
  pub input : List ℕ
  pub is_left : IsLeft input old.input
  -- its bytes are bytes, where those that are reported are
  pub bytes : IfSome old.input.left AreBytes → AreBytes input
  pub ends : (run n (state_at old input)).end ≡ end
  pub leaves : HasResult old input (run n (state_at old input)) new

-- the next instruction is the environment call of this number
pub record IsAtCall (number : ℕ) (m : ExecutionState) : Type 0 where
  pub word : ℕ
  pub fetched : fetch m.memory.mem m.hart.pc ≡ Ok word
  pub call : decoded word ≡ Some Ecall
  pub number_is : get (state_at m []).x a7 ≡ number

-- the environment call of input is fetched and not carried out, since the input failed
pub record FailsToRead (old new : ExecutionState) : Type 0 where
  pub call : IsAtCall input_call old
  pub hart : new.hart ≡ old.hart
  pub mem : new.memory.mem ≡ old.memory.mem
  pub fetches : AddsFetches (old.hart.pc ∷ []) old.memory new.memory
  pub input : SourceFails old.input new.input
  pub out : new.out ≡ old.out

-- the environment call of output is fetched and not carried out, since the output failed
pub record FailsToWrite (old new : ExecutionState) : Type 0 where
  pub call : IsAtCall output_call old
  pub hart : new.hart ≡ old.hart
  pub mem : new.memory.mem ≡ old.memory.mem
  pub fetches : AddsFetches (old.hart.pc ∷ []) old.memory new.memory
  pub input : new.input ≡ old.input
  pub out : SinkFails old.out new.out

-- the run up to some instruction before the `n`th, and then that failure
pub record RunsUpTo (n : ℕ) (fails : ExecutionState → ExecutionState → Type 0) (old new : ExecutionState) : Type 0 where
  pub k : ℕ
  pub below : k < n
  pub at : ExecutionState
  pub before : RunsTo k old at Limit
  pub failure : fails at new

-- a run of at most `n` instructions: as the machine's ends, or up to the call at which the input or the output failed
abbrev pub Runs : ℕ → ExecutionState → ExecutionState → End → Type 0
Runs n old new ReadFault = RunsUpTo n FailsToRead old new
Runs n old new WriteFault = RunsUpTo n FailsToWrite old new
Runs n old new end = RunsTo n old new end
