-- What the run of an image has to do with the source: what the output gained, what the input lost, how it ended, and what ran.
use Rattle.std.specs.Prelude.{◌≡◌, ℕ, suc, ◌<◌, List, ◌++◌, length, IfSome}
use Rattle.std.specs.List.{AllByRecursion}
use Rattle.pw_base.specs.Bytes.{AreBytes}
use Rattle.pw_tree.specs.Units.{TypedUnit}
use Rattle.pw_tree.specs.States.{Fault, checked, spent}
use Rattle.pw_tree.specs.Meaning.{Run, meaning, exit, stopped}
use Rattle.pw_tree.specs.Meaning as meant
use Rattle.pw_mem.specs.States.{MemoryState, AddsFetches}
use Rattle.pw_io.specs.Source.{SourceState, SourceFails, after}
use Rattle.pw_io.specs.Sink.{SinkFails, wrote, flushed_all}
use Rattle.pw_hart.specs.Outside.{Outside}
use Rattle.pw_hart.specs.Runs.{IsLeft}
use Rattle.pw_agree.specs.Kept.{Keep}
use Rattle.pw_simulation.specs.Moments.{kind_of}
use Rattle.pw_simulation.specs.AnyRuns.{HasTextOf}
use Rattle.pw_simulation.specs.Programs.{LiesInKeptCode}
use Rattle.pw_simulation.specs.ImageWorld.{world_of}
use Rattle.pw_image.specs.OneUnit.{project_of, own_definition}
use Rattle.pw_build.specs.declared.run.Ended.{Ended}
use Rattle.pw_build.specs.declared.run.Ended.TheVariants.{Exit, Checked, Spent, Trap, Limit, ReadFault, WriteFault}

-- What is left in the input is bytes, where that is reported.
abbrev pub ReportsBytes : SourceState → Type 0
ReportsBytes input = IfSome input.left AreBytes

-- Every fetch was counted and, where they are reported, appended to the fetched addresses; each is from kept code.
pub record FetchesKeptCode (unit : TypedUnit) (keep : Keep) (old new : MemoryState) : Type 0 where
  pub fetched : List ℕ
  pub kept : AllByRecursion (LiesInKeptCode (world_of (project_of unit) keep)) fetched
  pub added : AddsFetches fetched old new

-- An input of bytes is what is left, where that is reported, and these bytes were taken from it, with this rest.
pub record Takes (input taken rest : List ℕ) (old : SourceState) : Type 0 where
  pub is_left : IsLeft input old
  pub bytes : AreBytes input
  pub whole : input ≡ taken ++ rest

-- What the unit means on the input that is left, in so many counted steps.
abbrev pub meaning_of : TypedUnit → (input : List ℕ) → (steps : ℕ) → Run
meaning_of unit input steps = meaning (project_of unit) input steps

-- The meaning stops at a check that fails: of this kind, in this line, and in the function of this row, which is one of the unit's.
pub record FailsCheck (unit : TypedUnit) (end : meant.End) (kind row line : ℕ) : Type 0 where
  pub fault : Fault
  pub kind_is : kind ≡ kind_of fault
  pub number : ℕ
  pub there : number < length unit.functions
  pub row_is : row ≡ suc number
  pub end_is : end ≡ stopped (checked fault (own_definition number) line)

-- How the meaning ends, as it is answered. No meaning ends in a trap or at a limit of instructions.
abbrev pub IsEnd : TypedUnit → meant.End → Ended → Type 0
IsEnd unit end (Exit value) = end ≡ exit value
IsEnd unit end (Checked kind row line) = FailsCheck unit end kind row line
IsEnd unit end Spent = end ≡ stopped spent
IsEnd unit end (Trap cause pc value) = ⊥
IsEnd unit end (Limit limit) = ⊥
IsEnd unit end ReadFault = ⊥
IsEnd unit end WriteFault = ⊥

-- The run ended as the unit means; the output gained what it means and is flushed, and the input lost what it means.
pub record EndsAsMeant (unit : TypedUnit) (keep : Keep) (steps : ℕ) (old new : Outside) (ended : Ended) : Type 0 where
  pub input : List ℕ
  pub taken : List ℕ
  pub takes : Takes input taken (meaning_of unit input steps).rest old.input
  pub input_is : new.input ≡ after taken old.input
  pub out : new.out ≡ flushed_all (wrote (meaning_of unit input steps).output old.out)
  pub ends : IsEnd unit (meaning_of unit input steps).end ended
  pub fetches : FetchesKeptCode unit keep old.memory new.memory
  pub text : HasTextOf old.memory.mem new.memory.mem

-- The run was cut short: the output gained these bytes, a prefix of what the unit means, and the input lost those, a prefix of what
-- it means to be taken.
pub record IsCutShort (unit : TypedUnit) (keep : Keep) (steps : ℕ) (written taken : List ℕ) (old new : Outside) : Type 0 where
  pub input : List ℕ
  pub more_output : List ℕ
  pub output : (meaning_of unit input steps).output ≡ written ++ more_output
  pub more_taken : List ℕ
  pub takes : Takes input taken (more_taken ++ (meaning_of unit input steps).rest) old.input
  pub fetches : FetchesKeptCode unit keep old.memory new.memory
  pub text : HasTextOf old.memory.mem new.memory.mem

-- The input failed.
pub record StopsAsMeant (unit : TypedUnit) (keep : Keep) (steps : ℕ) (old new : Outside) : Type 0 where
  pub written : List ℕ
  pub taken : List ℕ
  pub begins : IsCutShort unit keep steps written taken old new
  pub out : new.out ≡ wrote written old.out
  pub input : SourceFails (after taken old.input) new.input

-- The output failed, at a byte or at the flush after the last.
pub record BreaksOffAsMeant (unit : TypedUnit) (keep : Keep) (steps : ℕ) (old new : Outside) : Type 0 where
  pub written : List ℕ
  pub taken : List ℕ
  pub begins : IsCutShort unit keep steps written taken old new
  pub out : SinkFails (wrote written old.out) new.out
  pub input : new.input ≡ after taken old.input

-- what each end of the run has to do with the source
abbrev pub IsMeant : TypedUnit → Keep → ℕ → Outside → Outside → Ended → Type 0
IsMeant unit keep steps old new ReadFault = StopsAsMeant unit keep steps old new
IsMeant unit keep steps old new WriteFault = BreaksOffAsMeant unit keep steps old new
IsMeant unit keep steps old new ended = EndsAsMeant unit keep steps old new ended
