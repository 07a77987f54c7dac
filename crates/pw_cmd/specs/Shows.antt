-- What a reader may take from a status, in few words: each is a consequence of what the commands answer.
use Rattle.std.specs.Prelude.{◌≡◌, ◌≢◌, ℕ, ◌-◌, ◌^◌, ◌<◌, ◌≤◌, ◌⊎◌, length, List, [], ◌∷◌, Option, Some, None, Err}
use Rattle.pw_base.specs.Limits.{source_bytes}
use Rattle.pw_base.specs.declared.kinds.Kind.TheVariants.{Program}
use Rattle.pw_tree.specs.declared.tunit.TUnit.{TUnit}
use Rattle.pw_tree.specs.Units.{unit_of}
use Rattle.pw_tree.specs.Meaning.{End}
use Rattle.pw_front.specs.declared.error.FrontError.{FrontError}
use Rattle.pw_front.specs.Units.{IsTypedUnitOf, FaultOf}
use Rattle.pw_io.specs.declared.ports.Asked.TheVariants.{Read}
use Rattle.pw_io.specs.Faults.{Rises}
use Rattle.pw_io.specs.Sink.{wrote, flushed_all}
use Rattle.pw_io.specs.Store.{Files, StoreState, StandsIn, called}
use Rattle.pw_hart.specs.Outside.{Outside}
use Rattle.pw_module.specs.declared.kept_row.KeptRow.{KeptRow}
use Rattle.pw_place.specs.Refusals.{link_fault}
use Rattle.pw_image.specs.OneUnit.{objects_of}
use Rattle.pw_image.specs.Rows.{keep_of}
use Rattle.pw_image.specs.Unbound.{first_unbound}
use Rattle.pw_build.specs.declared.run.Ended.{Ended}
use Rattle.pw_build.specs.Built.{IsBuilt}
use Rattle.pw_build.specs.Meant.{ReportsBytes, meaning_of, EndsAsMeant, StopsAsMeant, BreaksOffAsMeant}
use Rattle.pw_cmd.specs.declared.refusal.FileFault.TheVariants.{TooLong, Source}
use Rattle.pw_cmd.specs.declared.refusal.Refusal.{Refusal}
use Rattle.pw_cmd.specs.declared.refusal.Refusal.TheVariants.{File, Link, Unbound}
use Rattle.pw_cmd.specs.declared.answer.Stop.{Stop}
use Rattle.pw_cmd.specs.declared.answer.Stop.TheVariants.{Usage, Refused, ReadFailed, WriteFailed, NoMemory}
use Rattle.pw_cmd.specs.declared.words.Request.{Request}
use Rattle.pw_cmd.specs.Answer.{message_line}
use Rattle.pw_cmd.specs.Ends.{status_of_end, line_of_end, HasStatusOfEnd}
use Rattle.pw_cmd.specs.Faults.{fault_of}
use Rattle.pw_cmd.specs.Message.{unreported}
use Rattle.pw_cmd.specs.Words.{AsksForOne}
use Rattle.pw_cmd.specs.Laws.{NoneFailed, ReadFailedAlone, WriteFailedAlone, LeavesAll, MakesFirst}

-- ---- the meaning

-- The file was read, with one call, and has this text.
pub record HasRead (file text : List ℕ) (old new : StoreState) : Type 0 where
  pub calls : new ≡ called (Read file) old
  pub short : length text ≤ source_bytes
  pub stands : StandsIn old.files file text

-- The run of a program began: the words ask for a file, which was read, and has a typed unit; the image of the unit's program is
-- in the memory, with no address fetched yet, and in it exactly the functions that are kept; and the input and the output are as
-- before.
pub record Began (words : List (List ℕ)) (old new start : Outside) : Type 0 where
  pub request : Request
  pub asks : AsksForOne words request
  pub text : List ℕ
  pub read : HasRead request.file text old.store new.store
  pub unit : TUnit
  pub is_unit : IsTypedUnitOf text unit
  pub rows : List KeptRow
  pub built : IsBuilt request.file (unit_of unit) start.memory rows
  pub input : start.input ≡ old.input
  pub out : start.out ≡ old.out

-- A run began, and ended as the source means, in the steps that are asked for: the output gained what the unit means on the input
-- and is flushed, the input lost what it means, each fetched address lies in kept code, and the text in memory is the image's.
pub record RunsToItsEnd (words : List (List ℕ)) (old new : Outside) : Type 0 where
  pub start : Outside
  pub began : Began words old new start
  pub ended : Ended
  pub meant : EndsAsMeant (unit_of began.unit) (keep_of began.rows) began.request.steps start (unreported old new) ended

-- The end that the unit of a run means.
abbrev pub meant_end : {words : List (List ℕ)} {old new : Outside} → RunsToItsEnd words old new → End
meant_end r = (meaning_of (unit_of r.began.unit) r.meant.input r.began.request.steps).end

-- The source means what is seen: a run ended as it means, and the status and the line are those of that end.
pub record ShowsMeaning (words : List (List ℕ)) (old new : Outside) (status : ℕ) : Type 0 where
  pub run : RunsToItsEnd words old new
  pub status_is : status ≡ status_of_end (meant_end run)
  pub line : new.messages ≡ flushed_all (wrote (line_of_end run.began.request.file (unit_of run.began.unit) (meant_end run)) old.messages)

-- A run began, and the input failed: until then it was as the source means.
pub record StopsShort (words : List (List ℕ)) (old new : Outside) : Type 0 where
  pub start : Outside
  pub began : Began words old new start
  pub stops : StopsAsMeant (unit_of began.unit) (keep_of began.rows) began.request.steps start (unreported old new)

-- A run began, and the output failed: until then it was as the source means.
pub record BreaksShort (words : List (List ℕ)) (old new : Outside) : Type 0 where
  pub start : Outside
  pub began : Began words old new start
  pub breaks : BreaksOffAsMeant (unit_of began.unit) (keep_of began.rows) began.request.steps start (unreported old new)

-- Whatever was reported, nothing was done; or a run began, and what it did is what the source means, or the beginning of it.
abbrev pub WasDone : List (List ℕ) → Outside → Outside → Type 0
WasDone words old new =
    LeavesAll old new ⊎ (RunsToItsEnd words old new ⊎ (StopsShort words old new ⊎ BreaksShort words old new))

-- A status of an end comes only as the source means, no status is that of a trap, and after a failed call what was done is a
-- beginning of what the source means; so it is where the messages failed, whatever they were to say.
pub record ObeysMeaning (words : List (List ℕ)) (old new : Outside) (status : ℕ) : Type 0 where
  pub shows : (status ≡ 0) ⊎ ((status ≡ 1) ⊎ ((status ≡ 4) ⊎ (status ≡ 5))) → ShowsMeaning words old new status
  pub no_trap : status ≢ 9
  pub read_failed : status ≡ 6 → LeavesAll old new ⊎ StopsShort words old new
  pub write_failed : status ≡ 7 → BreaksShort words old new ⊎ (Rises old.messages.faults new.messages.faults × WasDone words old new)

-- So it is for an input of bytes, where it is reported.
abbrev pub Means : List (List ℕ) → Outside → Outside → ℕ → Type 0
Means words old new status = ReportsBytes old.input → ObeysMeaning words old new status

-- ---- failures

-- the message is the line of a stop, and is flushed
abbrev pub SaysStop : List (List ℕ) → Outside → Outside → Stop → Type 0
SaysStop words old new why = new.messages ≡ flushed_all (wrote (message_line words (Err why)) old.messages)

-- A status 6 comes only where the words ask for a file, and the store or the input failed, and nothing else; a status 7 only where
-- the output failed, and nothing else, or the messages; and with every other status no call failed.
pub record ReportsFailures (words : List (List ℕ)) (old new : Outside) (status : ℕ) : Type 0 where
  pub read : status ≡ 6 → (request : Request) × AsksForOne words request × ReadFailedAlone old new × SaysStop words old new ReadFailed
  pub write : status ≡ 7 → (WriteFailedAlone old new × SaysStop words old new WriteFailed) ⊎ Rises old.messages.faults new.messages.faults
  pub none : status ≢ 6 → status ≢ 7 → NoneFailed old new

-- no count of failed calls stands at its end
pub record CountsCanRise (old : Outside) : Type 0 where
  pub store : old.store.faults < 2 ^ 64 - 1
  pub input : old.input.faults < 2 ^ 64 - 1
  pub out : old.out.faults < 2 ^ 64 - 1
  pub messages : old.messages.faults < 2 ^ 64 - 1

-- ---- completeness

-- The words ask for a file, which is reported to have this text.
pub record AsksForText (words : List (List ℕ)) (files : Option Files) (request : Request) (text : List ℕ) : Type 0 where
  pub asks : AsksForOne words request
  pub at : Files
  pub reported : files ≡ Some at
  pub stands : at request.file ≡ Some text

-- The text is no longer than a source file may be, and has this typed unit.
pub record HasUnit (text : List ℕ) (unit : TUnit) : Type 0 where
  pub short : length text ≤ source_bytes
  pub is_unit : IsTypedUnitOf text unit

-- The text is that of a program: its unit has no fault of the link, and defines each name that it uses.
pub record IsProgram (request : Request) (text : List ℕ) (unit : TUnit) : Type 0 where
  pub has_unit : HasUnit text unit
  pub links : link_fault Program (objects_of request.file (unit_of unit)) ≡ None
  pub bound : first_unbound (unit_of unit) ≡ None

-- a program in a file that is reported, where no call fails, no count of failures stands at its end, and the input has bytes where it
-- is reported, gives the status of the end that it means, unless memory runs out
abbrev pub Completes : List (List ℕ) → Outside → Outside → ℕ → Type 0
Completes words old new status =
    (request : Request) (text : List ℕ) (unit : TUnit) → AsksForText words old.store.files request text → IsProgram request text unit
    → ReportsBytes old.input → CountsCanRise old → NoneFailed old new
    → HasStatusOfEnd (unit_of unit) request.steps old.input status ⊎ (status ≡ 8)

-- ---- refusals

-- What a text is refused for: the file is too long; or its first fault; or the first fault of the link; or the first name that its
-- unit uses and does not define.
abbrev pub IsRefused : Request → (text : List ℕ) → Refusal → Type 0
IsRefused request text (File number (TooLong limit)) = (number ≡ request.word) × (limit ≡ source_bytes) × (source_bytes < length text)
IsRefused request text (File number (Source fault)) =
    (number ≡ request.word) × (length text ≤ source_bytes) × ((error : FrontError) × FaultOf text error × (fault_of error ≡ Some fault))
IsRefused request text (Link fault) =
    (unit : TUnit) × HasUnit text unit × (link_fault Program (objects_of request.file (unit_of unit)) ≡ Some fault)
IsRefused request text (Unbound name) =
    (unit : TUnit) × HasUnit text unit × (link_fault Program (objects_of request.file (unit_of unit)) ≡ None)
    × (first_unbound (unit_of unit) ≡ Some name)

-- The file was refused: the words ask for it, its text has this fault, where the files are reported, and the line says so.
pub record WasRefused (words : List (List ℕ)) (old new : Outside) : Type 0 where
  pub request : Request
  pub asks : AsksForOne words request
  pub text : List ℕ
  pub stands : StandsIn old.store.files request.file text
  pub refusal : Refusal
  pub is : IsRefused request text refusal
  pub line : SaysStop words old new (Refused refusal)

-- A status 2 comes exactly where the words are of no command, unless the message fails, and a status 3 only for a fault of the text;
-- a text with a fault, in a file that is reported, is refused for it where no call fails, unless memory runs out. What is refused, for
-- the words, for an input file or for memory, leaves files, input, output and memory as they were, and its line is said.
pub record RefusesFaults (words : List (List ℕ)) (old new : Outside) (status : ℕ) : Type 0 where
  pub usage : status ≡ 2 → ((request : Request) → ¬ AsksForOne words request) × SaysStop words old new Usage
  pub no_command : ((request : Request) → ¬ AsksForOne words request) →
      (status ≡ 2) ⊎ ((status ≡ 7) × Rises old.messages.faults new.messages.faults × LeavesAll old new)
  pub refused : status ≡ 3 → WasRefused words old new
  pub refuses : (request : Request) (text : List ℕ) (refusal : Refusal) → AsksForText words old.store.files request text →
      IsRefused request text refusal → CountsCanRise old → NoneFailed old new →
      ((status ≡ 3) × SaysStop words old new (Refused refusal)) ⊎ (status ≡ 8)
  pub memory : status ≡ 8 → SaysStop words old new NoMemory
  pub leaves : (status ≡ 2) ⊎ ((status ≡ 3) ⊎ (status ≡ 8)) → LeavesAll old new

-- ---- calls

-- The calls on the store are the read of the file that the words ask for, or none; and none where they ask for no file.
pub record CallsInOrder (words : List (List ℕ)) (old new : Outside) : Type 0 where
  pub asked : (request : Request) → AsksForOne words request → MakesFirst (Read request.file ∷ []) old.store new.store
  pub none : ((request : Request) → ¬ AsksForOne words request) → new.store.calls ≡ old.store.calls

-- ---- all of it

-- All that a reader may take from a status.
pub record ShowsAll (words : List (List ℕ)) (old new : Outside) (status : ℕ) : Type 0 where
  pub means : Means words old new status
  pub failures : ReportsFailures words old new status
  pub completes : Completes words old new status
  pub refuses : RefusesFaults words old new status
  pub calls : CallsInOrder words old new
