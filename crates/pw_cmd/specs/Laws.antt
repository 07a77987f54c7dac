-- Laws that every command obeys, stated of stages: which counts of failures rise, what a refusal leaves, which calls are made.
use Rattle.std.specs.Prelude.{◌≡◌, ℕ, ◌⊎◌, List, [], ◌∷◌, ◌++◌, Option, Some, None, Result, Ok, Err, ⊤}
use Rattle.pw_io.specs.declared.ports.Asked.{Asked}
use Rattle.pw_io.specs.declared.ports.Asked.TheVariants.{Read}
use Rattle.pw_io.specs.Faults.{Rises}
use Rattle.pw_io.specs.Store.{StoreState, called_all}
use Rattle.pw_hart.specs.Outside.{Outside}
use Rattle.pw_cmd.specs.declared.answer.Stop.{Stop}
use Rattle.pw_cmd.specs.declared.answer.Stop.TheVariants.{Usage, Refused, ReadFailed, WriteFailed, NoMemory}
use Rattle.pw_cmd.specs.Stages.{Stage, each}
use Rattle.pw_cmd.specs.Primitives.{reads}
use Rattle.pw_cmd.specs.declared.words.Request.{Request}
use Rattle.pw_cmd.specs.Commands.{one, performs}

-- a law: what holds between two states of the outside where a stage gave a value, or stopped for a reason
abbrev pub Law : Type 1
Law = Outside → Outside → Option Stop → Type 0

-- why an answer stops, if it does
abbrev pub stop_in : {A : Type 0} → Result A Stop → Option Stop
stop_in (Ok _) = None
stop_in (Err why) = Some why

-- a stage obeys a law: whatever it answers, the law holds
abbrev pub Obeys : {A : Type 0} → Law → Stage A → Type 0
Obeys {A} law stage = (old new : Outside) (result : Result A Stop) → stage old new result → law old new (stop_in result)

-- no call of the store, the input, the output or the messages failed
pub record NoneFailed (old new : Outside) : Type 0 where
  pub store : new.store.faults ≡ old.store.faults
  pub input : new.input.faults ≡ old.input.faults
  pub out : new.out.faults ≡ old.out.faults
  pub messages : new.messages.faults ≡ old.messages.faults

-- The store or the input failed, one of them, and nothing else.
pub record ReadFailedAlone (old new : Outside) : Type 0 where
  pub failed : (Rises old.store.faults new.store.faults × (new.input.faults ≡ old.input.faults))
      ⊎ ((new.store.faults ≡ old.store.faults) × Rises old.input.faults new.input.faults)
  pub out : new.out.faults ≡ old.out.faults
  pub messages : new.messages.faults ≡ old.messages.faults

-- The output failed, and nothing else.
pub record WriteFailedAlone (old new : Outside) : Type 0 where
  pub out : Rises old.out.faults new.out.faults
  pub store : new.store.faults ≡ old.store.faults
  pub input : new.input.faults ≡ old.input.faults
  pub messages : new.messages.faults ≡ old.messages.faults

-- a read failed exactly where that is the reason, a write likewise, and else no call failed
abbrev pub FailuresStop : Law
FailuresStop old new (Some ReadFailed) = ReadFailedAlone old new
FailuresStop old new (Some WriteFailed) = WriteFailedAlone old new
FailuresStop old new _ = NoneFailed old new

-- the files, the input, the output and the memory are as before
pub record LeavesAll (old new : Outside) : Type 0 where
  pub files : new.store.files ≡ old.store.files
  pub input : new.input ≡ old.input
  pub out : new.out ≡ old.out
  pub memory : new.memory ≡ old.memory

-- whatever the answer is, all is as before
abbrev pub OnlyLooks : Law
OnlyLooks old new _ = LeavesAll old new

-- it is never the words, an input file or memory for which the command stops
abbrev pub NeverRefuses : Law
NeverRefuses old new (Some Usage) = ⊥
NeverRefuses old new (Some (Refused _)) = ⊥
NeverRefuses old new (Some NoMemory) = ⊥
NeverRefuses old new _ = ⊤

-- the reasons but a failed call: the words, an input file, or memory
abbrev pub IsRefusal : Stop → Type 0
IsRefusal ReadFailed = ⊥
IsRefusal WriteFailed = ⊥
IsRefusal _ = ⊤

-- where it is one of these, all is as before
abbrev pub RefusesCleanly : Law
RefusesCleanly old new (Some Usage) = LeavesAll old new
RefusesCleanly old new (Some (Refused _)) = LeavesAll old new
RefusesCleanly old new (Some NoMemory) = LeavesAll old new
RefusesCleanly old new _ = ⊤

-- These calls of the order, from its first on, were made on the store, and no other.
pub record MakesFirst (order : List Asked) (old new : StoreState) : Type 0 where
  pub made : List Asked
  pub rest : List Asked
  pub whole : order ≡ made ++ rest
  pub calls : new.calls ≡ (called_all made old).calls

-- the calls of the order are made, or, where the command stops, the first of them
abbrev pub MakesCalls : List Asked → Law
MakesCalls order old new None = new.store.calls ≡ (called_all order old.store).calls
MakesCalls order old new (Some _) = MakesFirst order old.store new.store

-- the calls of each item, in order
abbrev pub calls_of_each : {A : Type 0} → (A → List Asked) → List A → List Asked
calls_of_each order [] = []
calls_of_each order (item ∷ items) = order item ++ calls_of_each order items

-- Whatever the words ask for, a failed call ends the command with the status of a failure, and no other failure is passed over.
abbrev pub CommandsReportFailures : Type 0
CommandsReportFailures = (words : List (List ℕ)) → Obeys FailuresStop (performs words)

-- Whatever the words ask for, a refusal leaves all as it was.
abbrev pub CommandsRefuseCleanly : Type 0
CommandsRefuseCleanly = (words : List (List ℕ)) → Obeys RefusesCleanly (performs words)

-- `one` reads its file, and makes no other call of the store.
abbrev pub OneReadsItsFile : Type 0
OneReadsItsFile = (request : Request) → Obeys (MakesCalls (Read request.file ∷ [])) (one request)

-- Files that are read one after another: a failed read ends it, nothing but the calls changes, and these are the reads of the
-- files in order, up to the one that ended it.
abbrev pub FilesAreReadInOrder : Type 0
FilesAreReadInOrder = (number : ℕ) (files : List (List ℕ)) →
    Obeys FailuresStop (each reads number files) × Obeys OnlyLooks (each reads number files)
    × Obeys (MakesCalls (calls_of_each (λ file. Read file ∷ []) files)) (each reads number files)
