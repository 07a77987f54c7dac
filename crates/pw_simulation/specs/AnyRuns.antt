-- Runs of any length: what of the memory stays, and how a run that was cut short begins each longer one.
use Rattle.std.specs.Prelude.{◌≡◌, ◌≢◌, ℕ, ◌+◌, ◌*◌, ◌<◌, ◌≤◌, true, List, ◌++◌, map}
use Rattle.std.specs.List.{AllByRecursion, filter}
use Rattle.pw_tree.specs.Meaning.{Run, meaning}
use Rattle.pw_mem.specs.Memory.{Mem}
use Rattle.pw_mem.specs.WriteLaws.{shape_of}
use Rattle.pw_hart.specs.declared.ends.End.TheVariants.{Limit}
use Rattle.pw_hart.specs.State.{MachineState}
use Rattle.pw_hart.specs.Run.{RunResult, run}
use Rattle.pw_simulation.specs.World.{World}
use Rattle.pw_simulation.specs.Sees.{Sees}
use Rattle.pw_simulation.specs.Programs.{LiesInKeptCode, IsRunnable, IsStart}

-- ---- memory

-- A memory has the regions of another, and the same text in them, so that only bytes that are no code may differ, and it is sealed.
pub record HasTextOf (old new : Mem) : Type 0 where
  pub shapes : map shape_of new.regions ≡ map shape_of old.regions
  pub text : filter (λ region. region.execute) new.regions ≡ filter (λ region. region.execute) old.regions
  pub sealed : new.sealed ≡ true

-- However long a run is, the text of a sealed memory stays.
abbrev pub SealedTextStaysInRuns : Type 0
SealedTextStaysInRuns = (n : ℕ) (s : MachineState) → s.mem.sealed ≡ true → HasTextOf s.mem (run n s).state.mem

-- ---- runs that are cut short

-- What one run put, took and fetched is the beginning of what another did.
pub record IsBeginningOf (short long : RunResult) : Type 0 where
  pub more_output : List ℕ
  pub output : long.state.output ≡ short.state.output ++ more_output
  pub taken : List ℕ
  pub input : short.state.input ≡ taken ++ long.state.input
  pub more_fetched : List ℕ
  pub fetched : long.fetched ≡ short.fetched ++ more_fetched

-- A run that stops at its limit is the beginning of each longer run.
abbrev pub LimitedRunsGoOn : Type 0
LimitedRunsGoOn = (k n : ℕ) (s : MachineState) → k ≤ n → (run k s).end ≡ Limit → IsBeginningOf (run k s) (run n s)

-- A run that ended before its limit is the same whatever longer limit it has.
abbrev pub EndedRunsStay : Type 0
EndedRunsStay = (k n : ℕ) (s : MachineState) → k ≤ n → (run k s).end ≢ Limit → run n s ≡ run k s

-- Two runs fetched from the same addresses, put the same output, left the same input, and ended in the same way.
pub record RunAlike (one other : RunResult) : Type 0 where
  pub end : other.end ≡ one.end
  pub fetched : other.fetched ≡ one.fetched
  pub output : other.state.output ≡ one.state.output
  pub input : other.state.input ≡ one.state.input

-- A run that was cut short did a beginning of what the meaning comes to: the output so far is the front of the meaning's, the
-- input that is left ends with what the meaning leaves, and what was fetched lies in kept code, as does the next instruction.
pub record BeginsAsMeant (w : World) (means : Run) (o : RunResult) : Type 0 where
  pub more_output : List ℕ
  pub output : means.output ≡ o.state.output ++ more_output
  pub taken : List ℕ
  pub input : o.state.input ≡ taken ++ means.rest
  pub kept : AllByRecursion (LiesInKeptCode w) o.fetched
  pub next : LiesInKeptCode w o.state.pc

-- Each run that is cut short before its limit is such a beginning.
abbrev pub LimitedRunsAreMeant : Type 0
LimitedRunsAreMeant =
    (w : World) (input : List ℕ) (bound k : ℕ) (s : MachineState) →
    Sees w → IsRunnable w → IsStart w input bound s → k < (bound + 1) * w.words → (run k s).end ≡ Limit →
    BeginsAsMeant w (meaning w.project input bound) (run k s)
