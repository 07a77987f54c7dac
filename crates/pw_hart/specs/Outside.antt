-- What a program may read and change: its files, its input, its output, its messages and its memory.
use Rattle.pw_io.specs.Source.{SourceState}
use Rattle.pw_io.specs.Sink.{SinkState}
use Rattle.pw_io.specs.Store.{StoreState}
use Rattle.pw_mem.specs.States.{MemoryState}
use Rattle.pw_hart.specs.declared.hart.Hart.{Hart}
use Rattle.pw_hart.specs.Runs.{ExecutionState}

-- the outside at one moment
pub record Outside : Type 0 where
  pub store : StoreState
  pub input : SourceState
  pub out : SinkState
  pub messages : SinkState
  pub memory : MemoryState

-- the outside in these states
abbrev pub outside : StoreState → SourceState → SinkState → SinkState → MemoryState → Outside
outside store input out messages memory =
    record { store = store; input = input; out = out; messages = messages; memory = memory }

-- the outside with other messages
abbrev pub with_messages : Outside → SinkState → Outside
with_messages o messages = record o { messages = messages }

-- the execution of a processor that is given this memory, input and output
abbrev pub execution : Hart → Outside → ExecutionState
execution hart o = record { hart = hart; memory = o.memory; input = o.input; out = o.out }
