-- The stages that commands are made of: each is a call of a layer below, with the reason for which its error stops the
-- command.
use Rattle.std.specs.Prelude.{◌≡◌, ℕ, List, Option, Some, None, Result, Ok, Err, Vec, slice_get}
use Rattle.std.specs.declared.alloc.Global.{Global}
use Rattle.pw_base.specs.Limits.{source_bytes}
use Rattle.pw_tree.specs.declared.tunit.TUnit.{TUnit}
use Rattle.pw_tree.specs.Units.{TypedUnit}
use Rattle.pw_front.specs.declared.error.FrontError.{FrontError}
use Rattle.pw_front.specs.Units.{IsTypedUnitOf, FaultOf}
use Rattle.pw_io.specs.declared.errors.ReadError.{ReadError}
use Rattle.pw_io.specs.declared.errors.ReadError.TheVariants as stores
use Rattle.pw_io.specs.Store.{Reads}
use Rattle.pw_hart.specs.Outside.{Outside}
use Rattle.pw_module.specs.declared.kept_row.KeptRow.{KeptRow}
use Rattle.pw_image.specs.Rows.{keep_of}
use Rattle.pw_build.specs.declared.image_error.ImageError.{ImageError}
use Rattle.pw_build.specs.declared.image_error.ImageError.TheVariants as images
use Rattle.pw_build.specs.Built.{Builds}
use Rattle.pw_build.specs.declared.run.Ended.{Ended}
use Rattle.pw_build.specs.declared.run.Ended.TheVariants as runs
use Rattle.pw_build.specs.Executed.{Executes}
use Rattle.pw_build.specs.Meant.{ReportsBytes, IsMeant}
use Rattle.pw_cmd.specs.declared.fault.FrontFault.{FrontFault}
use Rattle.pw_cmd.specs.declared.answer.Ending.{Ending}
use Rattle.pw_cmd.specs.declared.answer.Ending.TheVariants as endings
use Rattle.pw_cmd.specs.declared.answer.Stop.{Stop}
use Rattle.pw_cmd.specs.declared.answer.Stop.TheVariants.{Usage, Refused, ReadFailed, WriteFailed, NoMemory}
use Rattle.pw_cmd.specs.declared.refusal.FileFault.TheVariants.{TooLong, Source}
use Rattle.pw_cmd.specs.declared.refusal.Refusal.TheVariants.{File, Link, Unbound}
use Rattle.pw_cmd.specs.declared.words.CommandError.{CommandError}
use Rattle.pw_cmd.specs.declared.words.CommandError.TheVariants as words
use Rattle.pw_cmd.specs.declared.words.Request.{Request}
use Rattle.pw_cmd.specs.Faults.{fault_of}
use Rattle.pw_cmd.specs.Words.{ReadsCommand}
use Rattle.pw_cmd.specs.Stages.{Stage, CallsBelow}

-- ---- the words

-- nothing changes while the words are judged
abbrev pub JudgesWords : List (List ℕ) → Outside → Outside → Result Request CommandError → Type 0
JudgesWords asked old new answer = ReadsCommand asked answer × (new ≡ old)

-- why words that are of no command stop it
abbrev pub stop_of_words : CommandError → Stop
stop_of_words words.NoCommand = Usage
stop_of_words words.NoMemory = NoMemory

-- what the words ask for
abbrev pub judges : List (List ℕ) → Stage Request
judges asked = CallsBelow (JudgesWords asked) stop_of_words

-- ---- a file

-- a read changes nothing but the store
abbrev pub ReadsFile : List ℕ → Outside → Outside → Result (Vec ℕ Global) ReadError → Type 0
ReadsFile file old new answer = Reads old.store file source_bytes new.store answer × (new ≡ record old { store = new.store })

-- why a read that gives no text stops the command
abbrev pub stop_of_read : ℕ → ReadError → Stop
stop_of_read number stores.Failed = ReadFailed
stop_of_read number (stores.TooLong limit) = Refused (File number (TooLong limit))
stop_of_read number stores.NoMemory = NoMemory

-- the bytes of a source file, which the word of this number names
abbrev pub reads : ℕ → List ℕ → Stage (Vec ℕ Global)
reads number file = CallsBelow (ReadsFile file) (stop_of_read number)

-- ---- a source

-- the typed unit of a text, or its first fault; nothing changes
abbrev pub Compiles : List ℕ → Outside → Outside → Result TUnit FrontError → Type 0
Compiles text old new (Ok unit) = IsTypedUnitOf text unit × (new ≡ old)
Compiles text old new (Err error) = FaultOf text error × (new ≡ old)

-- why a text with this fault stops the command; or memory ran out
abbrev pub stop_of_fault : ℕ → Option FrontFault → Stop
stop_of_fault number (Some fault) = Refused (File number (Source fault))
stop_of_fault number None = NoMemory

-- why a text without a typed unit stops the command
abbrev pub stop_of_front : ℕ → FrontError → Stop
stop_of_front number error = stop_of_fault number (fault_of error)

-- the typed unit of the text in the file of this word
abbrev pub compiles : ℕ → List ℕ → Stage TUnit
compiles number text = CallsBelow (Compiles text) (stop_of_front number)

-- ---- the image

-- the image of the unit's program is put into the memory; nothing else changes
abbrev pub BuildsImage : List ℕ → TypedUnit → Outside → Outside → Result (List KeptRow) ImageError → Type 0
BuildsImage file unit old new answer = Builds file unit old.memory new.memory answer × (new ≡ record old { memory = new.memory })

-- why a unit without an image stops the command
abbrev pub stop_of_image : ImageError → Stop
stop_of_image (images.Link fault) = Refused (Link fault)
stop_of_image (images.Unbound name) = Refused (Unbound name)
stop_of_image images.NoMemory = NoMemory

-- the memory gets the image of the program of the file's unit; what became of each of its functions
abbrev pub builds : List ℕ → TypedUnit → Stage (List KeptRow)
builds file unit = CallsBelow (BuildsImage file unit) stop_of_image

-- ---- the run

-- the answer of a run that ended so; a checked fault is reported with the row of its function
abbrev pub ending_of : List KeptRow → Ended → Result Ending Stop
ending_of rows (runs.Exit value) = Ok (endings.Ended value)
ending_of rows (runs.Checked kind row line) = Ok (endings.Faulted kind (slice_get rows row) line)
ending_of rows runs.Spent = Ok endings.Spent
ending_of rows (runs.Trap cause pc value) = Ok (endings.Trapped cause pc value)
ending_of rows (runs.Limit limit) = Ok (endings.Limited limit)
ending_of rows runs.ReadFault = Err ReadFailed
ending_of rows runs.WriteFault = Err WriteFailed

-- The image ran with so many counted steps, and ended so; where the input reports bytes, as the source means.
pub record runs_image (unit : TypedUnit) (rows : List KeptRow) (steps : ℕ) (old new : Outside) (result : Result Ending Stop) : Type 0 where
  pub ended : Ended
  pub executes : Executes unit (keep_of rows) steps old new ended
  pub meant : ReportsBytes old.input → IsMeant unit (keep_of rows) steps old new ended
  pub result_is : result ≡ ending_of rows ended
