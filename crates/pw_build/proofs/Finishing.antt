-- The machine's run from a fresh processor, with the flush of the output after it, is what the call answers.
use Rattle.std.proofs.Common.{◌≡◌, ℕ, ◌+◌, ◌*◌, ◌/◌, List, inl, inr, refl, sym, subst}
use Rattle.pw_tree.specs.Units.{TypedUnit}
use Rattle.pw_io.specs.Store.{StoreState}
use Rattle.pw_io.specs.Sink.{SinkState}
use Rattle.pw_hart.specs.declared.ends.End.{End}
use Rattle.pw_hart.specs.Runs.{ExecutionState, RunsTo, Runs}
use Rattle.pw_hart.specs.Outside.{Outside, outside}
use Rattle.pw_module.specs.declared.kept_row.KeptRow.{KeptRow}
use Rattle.pw_agree.specs.Kept.{Keep}
use Rattle.pw_image.specs.Rows.{AreRows, keep_of}
use Rattle.pw_build.specs.declared.run.Ended.{Ended}
use Rattle.pw_build.specs.declared.run.Ended.TheVariants.{Exit, Checked, Spent, Trap, Limit, ReadFault, WriteFault}
use Rattle.pw_build.specs.Extents.{bytes_of_rows}
use Rattle.pw_build.specs.Executed.{IsFresh, HasExecuted, EndsSo, Flushes, Finishes, Executes}
use Rattle.pw_build.proofs.RowsOfUnits.{limit_is}

-- the outside of an execution with these files and messages
abbrev pub outside_of : StoreState → SinkState → ExecutionState → Outside
outside_of store messages m = outside store m.input m.out messages m.memory

-- no run that ended by itself is answered as one whose input failed
ends_itself : (unit : TypedUnit) (keep : Keep) (steps : ℕ) (end : End) (answered : Ended) → EndsSo unit keep steps end answered →
    answered ≡ ReadFault → ⊥
ends_itself unit keep steps end answered so is = subst (EndsSo unit keep steps end) is so

-- nor as one whose output failed, but for the flush
pub ends_without_flush : (unit : TypedUnit) (keep : Keep) (steps : ℕ) (end : End) (answered : Ended) → EndsSo unit keep steps end answered →
    answered ≡ WriteFault → ⊥
ends_without_flush unit keep steps end answered so is = subst (EndsSo unit keep steps end) is so

never_read_fault : (unit : TypedUnit) (keep : Keep) (steps : ℕ) (old new : Outside) → Finishes unit keep steps old new ReadFault → ⊥
never_read_fault unit keep steps old new f = by_flush f.flushes where
  by_flush : Flushes f.as_answered f.mid new.out ReadFault → ⊥
  by_flush (inl flushed) = ends_itself unit keep steps f.end f.as_answered f.ends_so (sym flushed.0)
  by_flush (inr failed) = let other = failed.0 in cc

-- a run that finishes is one that is executed
executes : (unit : TypedUnit) (keep : Keep) (steps : ℕ) (old new : Outside) (ended : Ended) → Finishes unit keep steps old new ended →
    Executes unit keep steps old new ended
executes unit keep steps old new (Exit value) f = f
executes unit keep steps old new (Checked kind row line) f = f
executes unit keep steps old new Spent f = f
executes unit keep steps old new (Trap cause pc value) f = f
executes unit keep steps old new (Limit limit) f = f
executes unit keep steps old new ReadFault f = absurd (never_read_fault unit keep steps old new f)
executes unit keep steps old new WriteFault f = inr f

-- ---- with rows

-- the machine's run, with these files and messages, from the words that the rows say
pub has_executed : (file : List ℕ) (unit : TypedUnit) (rows : List KeptRow) (steps words : ℕ) (old new : ExecutionState) (end : End)
    (store : StoreState) (messages : SinkState) →
    AreRows file unit rows → IsFresh steps old.hart → words ≡ bytes_of_rows rows / 4 → Runs ((steps + 1) * words) old new end →
    HasExecuted unit steps (outside_of store messages old) (outside_of store messages new) end
has_executed file unit rows steps words old new end store messages are is_fresh words_are runs = record {
  fresh = old.hart;
  is_fresh = is_fresh;
  last = new.hart;
  runs = subst (λ n. Runs n old new end) (limit_is file unit rows steps words are words_are) runs;
  files = refl;
  messages = refl;
}

-- a run that ended by itself, and the flush after it
pub finishes : (file : List ℕ) (unit : TypedUnit) (rows : List KeptRow) (steps words : ℕ) (old mid : ExecutionState) (out : SinkState)
    (end : End) (answered ended : Ended) (store : StoreState) (messages : SinkState) →
    AreRows file unit rows → IsFresh steps old.hart → words ≡ bytes_of_rows rows / 4 → Runs ((steps + 1) * words) old mid end →
    EndsSo unit (keep_of rows) steps end answered → Flushes answered mid.out out ended →
    Executes unit (keep_of rows) steps (outside_of store messages old) (outside store mid.input out messages mid.memory) ended
finishes file unit rows steps words old mid out end answered ended store messages are is_fresh words_are runs so flushes =
    executes unit (keep_of rows) steps (outside_of store messages old) (outside store mid.input out messages mid.memory) ended (record {
      end = end;
      as_answered = answered;
      ends_so = so;
      mid = mid.out;
      runs = has_executed file unit rows steps words old mid end store messages are is_fresh words_are runs;
      flushes = flushes;
    })

-- ---- to its end

-- such a run is the machine's to its end
pub runs_to : (unit : TypedUnit) (keep : Keep) (steps n : ℕ) (old new : ExecutionState) (end : End) (answered : Ended) →
    EndsSo unit keep steps end answered → Runs n old new end → RunsTo n old new end
runs_to unit keep steps n old new end (Exit value) so runs =
    let P : End → Type 0 = λ e. Runs n old new e → RunsTo n old new e in subst P (sym so) (λ r. r) runs
runs_to unit keep steps n old new end (Checked kind row line) so runs =
    let P : End → Type 0 = λ e. Runs n old new e → RunsTo n old new e in subst P (sym so.1) (λ r. r) runs
runs_to unit keep steps n old new end Spent so runs =
    let P : End → Type 0 = λ e. Runs n old new e → RunsTo n old new e in subst P (sym so) (λ r. r) runs
runs_to unit keep steps n old new end (Trap cause pc value) so runs =
    let P : End → Type 0 = λ e. Runs n old new e → RunsTo n old new e in subst P (sym so) (λ r. r) runs
runs_to unit keep steps n old new end (Limit limit) so runs =
    let P : End → Type 0 = λ e. Runs n old new e → RunsTo n old new e in subst P (sym so.0) (λ r. r) runs
runs_to unit keep steps n old new end ReadFault so runs = absurd so
runs_to unit keep steps n old new end WriteFault so runs = absurd so
