-- What the run of an image answers, and what it leaves of its memory, its input and its output: the machine's run. Nothing is asked of
-- the input here, so that a run may also trap or come to its limit; what the source means excludes both (Meant).
use Rattle.std.specs.Prelude.{◌≡◌, ℕ, zero, suc, ◌+◌, ◌*◌, ◌⊎◌, length}
use Rattle.pw_tree.specs.Units.{TypedUnit}
use Rattle.pw_isa.specs.Registers.{sp}
use Rattle.pw_base.specs.Limits.{stack_start, stack_bytes}
use Rattle.pw_io.specs.Sink.{SinkState, SinkFails, flushed_all}
use Rattle.pw_hart.specs.declared.hart.Hart.{Hart}
use Rattle.pw_hart.specs.declared.ends.End.{End}
use Rattle.pw_hart.specs.declared.ends.End.TheVariants as ends
use Rattle.pw_hart.specs.Harts.{registers}
use Rattle.pw_hart.specs.State.{set}
use Rattle.pw_hart.specs.Runs.{Runs}
use Rattle.pw_hart.specs.Outside.{Outside, execution}
use Rattle.pw_agree.specs.Kept.{Keep}
use Rattle.pw_agree.specs.Placing.{text_of}
use Rattle.pw_simulation.specs.World.{World}
use Rattle.pw_simulation.specs.Moments.{IsInside}
use Rattle.pw_simulation.specs.Programs.{LiesInEntry}
use Rattle.pw_simulation.specs.ImageWorld.{words_of_project, world_of}
use Rattle.pw_image.specs.OneUnit.{project_of, own_definition}
use Rattle.pw_build.specs.declared.run.Ended.{Ended}
use Rattle.pw_build.specs.declared.run.Ended.TheVariants.{Exit, Checked, Spent, Trap, Limit, ReadFault, WriteFault}

-- The processor as a run begins: at the entry, its registers 0 but the stack pointer, with these counted steps.
pub record IsFresh (steps : ℕ) (hart : Hart) : Type 0 where
  pub pc : hart.pc ≡ text_of 0
  pub steps_left : hart.steps ≡ steps
  pub x : registers hart ≡ set (λ _. 0) sp (stack_start + stack_bytes)

-- How many instructions a run may have at most: the words of the program for each counted step, and once more.
abbrev pub instruction_limit : TypedUnit → (steps : ℕ) → ℕ
instruction_limit unit steps = (steps + 1) * words_of_project (project_of unit)

-- The machine's run from the start, of at most so many instructions, ends so and leaves that; the files and the messages are as
-- before.
pub record HasExecuted (unit : TypedUnit) (steps : ℕ) (old new : Outside) (end : End) : Type 0 where
  pub fresh : Hart
  pub is_fresh : IsFresh steps fresh
  pub last : Hart
  pub runs : Runs (instruction_limit unit steps) (execution fresh old) (execution last new) end
  pub files : new.store ≡ old.store
  pub messages : new.messages ≡ old.messages

-- An address lies in the code of the function of a row: the entry's row comes first, then those of the unit's functions.
abbrev pub LiesInRow : World → (row at : ℕ) → Type 0
LiesInRow w zero at = LiesInEntry w at
LiesInRow w (suc i) at = IsInside w (own_definition i) at

-- The number of the row in whose function an address lies; where it lies in none, the number of rows.
abbrev pub IsRowAt : TypedUnit → (keep : Keep) → (at row : ℕ) → Type 0
IsRowAt unit keep at row =
    let w : World = world_of (project_of unit) keep in
    LiesInRow w row at ⊎ ((row ≡ suc (length unit.functions)) × ((n : ℕ) → LiesInRow w n at → ⊥))

-- The machine's end as it is answered: a checked fault with the row of the function in whose code it is, and the limit with its number.
abbrev pub EndsSo : TypedUnit → (keep : Keep) → (steps : ℕ) → End → Ended → Type 0
EndsSo unit keep steps end (Exit value) = end ≡ ends.Exit value
EndsSo unit keep steps end (Checked kind row line) = (pc : ℕ) × (end ≡ ends.Checked kind line pc) × IsRowAt unit keep pc row
EndsSo unit keep steps end Spent = end ≡ ends.Spent
EndsSo unit keep steps end (Trap cause pc value) = end ≡ ends.Trap cause pc value
EndsSo unit keep steps end (Limit limit) = (end ≡ ends.Limit) × (limit ≡ instruction_limit unit steps)
EndsSo unit keep steps end ReadFault = ⊥
EndsSo unit keep steps end WriteFault = ⊥

-- The flush of the output after a run that ended so, or its failure, which is the end then.
abbrev pub Flushes : (as_answered : Ended) → (old new : SinkState) → Ended → Type 0
Flushes as_answered old new ended =
    ((ended ≡ as_answered) × (new ≡ flushed_all old)) ⊎ ((ended ≡ WriteFault) × SinkFails old new)

-- The run ended by itself, and then the output was flushed, or that failed.
pub record Finishes (unit : TypedUnit) (keep : Keep) (steps : ℕ) (old new : Outside) (ended : Ended) : Type 0 where
  pub end : End
  pub as_answered : Ended
  pub ends_so : EndsSo unit keep steps end as_answered
  pub mid : SinkState
  pub runs : HasExecuted unit steps old (record new { out = mid }) end
  pub flushes : Flushes as_answered mid new.out ended

-- the run of an image: it ends by itself and the output is flushed; or the input or the output failed
abbrev pub Executes : TypedUnit → Keep → ℕ → Outside → Outside → Ended → Type 0
Executes unit keep steps old new ReadFault = HasExecuted unit steps old new ends.ReadFault
Executes unit keep steps old new WriteFault = HasExecuted unit steps old new ends.WriteFault ⊎ Finishes unit keep steps old new WriteFault
Executes unit keep steps old new ended = Finishes unit keep steps old new ended
