-- The run of an image is what the unit means: at its end, with the flush after it, and up to a call that failed.
use Rattle.std.proofs.Common.{◌≡◌, ℕ, ◌<◌, List, [], ◌∷◌, ◌++◌, inl, inr, ap, sym, subst, ◌∙◌, append-nil}
use Rattle.pw_tree.specs.Units.{TypedUnit}
use Rattle.pw_mem.specs.Memory.{Mem}
use Rattle.pw_mem.specs.States.{AddsFetches}
use Rattle.pw_mem.proofs.States.{fetches_more}
use Rattle.pw_io.specs.Source.{SourceFails}
use Rattle.pw_io.specs.Sink.{SinkState, SinkFails, wrote, flushed_all}
use Rattle.pw_hart.specs.declared.hart.Hart.{Hart}
use Rattle.pw_hart.specs.declared.ends.End.{End}
use Rattle.pw_hart.specs.declared.ends.End.TheVariants as ends
use Rattle.pw_hart.specs.Run.{run}
use Rattle.pw_hart.specs.Runs.{ExecutionState, state_at, RunsTo}
use Rattle.pw_hart.specs.Outside.{Outside, execution}
use Rattle.pw_module.specs.declared.kept_row.KeptRow.{KeptRow}
use Rattle.pw_agree.specs.Kept.{Keep}
use Rattle.pw_agree.specs.Image.{image}
use Rattle.pw_simulation.specs.Programs.{LiesInKeptCode, EndsAs}
use Rattle.pw_simulation.specs.AnyRuns.{HasTextOf}
use Rattle.pw_simulation.specs.Projects.{CanRun, KeepsEnough}
use Rattle.pw_simulation.specs.ImageWorld.{world_of}
use Rattle.pw_simulation.proofs.Reach.{all_append}
use Rattle.pw_image.specs.OneUnit.{project_of}
use Rattle.pw_image.specs.Rows.{AreRows, keep_of}
use Rattle.pw_build.specs.declared.run.Ended.{Ended}
use Rattle.pw_build.specs.declared.run.Ended.TheVariants.{Exit, Checked, Spent, Trap, Limit, ReadFault, WriteFault}
use Rattle.pw_build.specs.Executed.{IsFresh, instruction_limit, HasExecuted, EndsSo, Flushes, Finishes, Executes}
use Rattle.pw_build.specs.Meant.{ReportsBytes, meaning_of, EndsAsMeant, IsCutShort, StopsAsMeant, BreaksOffAsMeant, IsMeant}
use Rattle.pw_build.proofs.RowsOfUnits.{rows_keep_enough}
use Rattle.pw_build.proofs.Starting.{Begins, run_is_meant, run_begins_as_meant, text_stays}
use Rattle.pw_build.proofs.Ends.{end_is_meant}
use Rattle.pw_build.proofs.Finishing.{ends_without_flush, runs_to}

-- What holds as a run begins, whatever the processor: the project can be run, enough of it is kept, its image is in memory, and what is
-- left in the input is bytes.
record IsReady (unit : TypedUnit) (keep : Keep) (old : Outside) : Type 0 where
  can : CanRun (project_of unit)
  enough : KeepsEnough (project_of unit) keep
  image_is : old.memory.mem ≡ image (project_of unit) keep
  bytes : ReportsBytes old.input

module _ (unit : TypedUnit) (keep : Keep) (steps : ℕ) (old new : Outside) (ready : IsReady unit keep old) where
  begins : (fresh : Hart) → IsFresh steps fresh → Begins unit keep steps (execution fresh old)
  begins fresh is_fresh = record { can = ready.can; enough = ready.enough; image_is = ready.image_is; is_fresh = is_fresh }

  -- ---- a run to its end

  -- a run that ended by itself, with the flush after it
  ended_as_meant : (mid : SinkState) (end : End) (answered : Ended) → EndsSo unit keep steps end answered →
      HasExecuted unit steps old (record new { out = mid }) end → new.out ≡ flushed_all mid → EndsAsMeant unit keep steps old new answered
  ended_as_meant mid end answered so executed flushed =
      let r = runs_to unit keep steps _ _ _ end answered so executed.runs in
      let b = begins executed.fresh executed.is_fresh in
      let m = run_is_meant unit keep steps (execution executed.fresh old) r.input b (r.bytes ready.bytes) in
      let l = r.leaves in
      let means = meaning_of unit r.input steps in
      record {
        input = r.input;
        taken = l.taken;
        takes = record { is_left = r.is_left; bytes = r.bytes ready.bytes; whole = l.took ∙ ap (λ rest. l.taken ++ rest) m.reads };
        input_is = l.left;
        out = flushed ∙ ap flushed_all (l.put ∙ ap (λ output. wrote output old.out) m.writes);
        ends = end_is_meant unit keep steps means.end end answered ready.can
            (subst (EndsAs (world_of (project_of unit) keep) means.end) r.ends m.ends) so;
        fetches = record { fetched = _; kept = m.kept; added = l.fetches };
        text = text_stays unit keep steps (instruction_limit unit steps) (execution executed.fresh old) _ r.input b l;
      }

  -- the output failed at the flush after it
  broke_off_at_flush : (mid : SinkState) (end : End) (answered : Ended) → EndsSo unit keep steps end answered →
      HasExecuted unit steps old (record new { out = mid }) end → SinkFails mid new.out → BreaksOffAsMeant unit keep steps old new
  broke_off_at_flush mid end answered so executed failed =
      let r = runs_to unit keep steps _ _ _ end answered so executed.runs in
      let b = begins executed.fresh executed.is_fresh in
      let m = run_is_meant unit keep steps (execution executed.fresh old) r.input b (r.bytes ready.bytes) in
      let l = r.leaves in
      let means = meaning_of unit r.input steps in
      record {
        written = means.output;
        taken = l.taken;
        begins = record {
          input = r.input;
          more_output = [];
          output = sym (append-nil means.output);
          more_taken = [];
          takes = record { is_left = r.is_left; bytes = r.bytes ready.bytes; whole = l.took ∙ ap (λ rest. l.taken ++ rest) m.reads };
          fetches = record { fetched = _; kept = m.kept; added = l.fetches };
          text = text_stays unit keep steps (instruction_limit unit steps) (execution executed.fresh old) _ r.input b l;
        };
        out = subst (λ o. SinkFails o new.out) (l.put ∙ ap (λ output. wrote output old.out) m.writes) failed;
        input = l.left;
      }

  -- ---- a run up to a call that failed

  -- up to that call it is a beginning of what the unit means, the fetch of the call itself among what is fetched
  begun_as_meant : (k : ℕ) (fresh : Hart) (at : ExecutionState) → IsFresh steps fresh → k < instruction_limit unit steps →
      (r : RunsTo k (execution fresh old) at ends.Limit) → AddsFetches (at.hart.pc ∷ []) at.memory new.memory →
      new.memory.mem ≡ at.memory.mem →
      IsCutShort unit keep steps (run k (state_at (execution fresh old) r.input)).state.output r.leaves.taken old new
  begun_as_meant k fresh at is_fresh short r fetches mem =
      let w = world_of (project_of unit) keep in
      let b = begins fresh is_fresh in
      let l = r.leaves in
      let o = run k (state_at (execution fresh old) r.input) in
      let m = run_begins_as_meant unit keep steps k (execution fresh old) r.input b (r.bytes ready.bytes) short r.ends in
      let next : LiesInKeptCode w at.hart.pc = subst (LiesInKeptCode w) (ap (λ s. s.pc) l.state) m.next in
      let P : Mem → Type 0 = HasTextOf old.memory.mem in
      record {
        input = r.input;
        more_output = m.more_output;
        output = m.output;
        more_taken = m.taken;
        takes = record { is_left = r.is_left; bytes = r.bytes ready.bytes; whole = l.took ∙ ap (λ rest. l.taken ++ rest) m.input };
        fetches = record {
          fetched = o.fetched ++ at.hart.pc ∷ [];
          kept = all_append (LiesInKeptCode w) o.fetched (at.hart.pc ∷ []) m.kept (next, tt);
          added = fetches_more o.fetched (at.hart.pc ∷ []) old.memory at.memory new.memory l.fetches fetches;
        };
        text = subst P (sym mem) (text_stays unit keep steps k (execution fresh old) at r.input b l);
      }

  -- the input failed
  stopped_at : HasExecuted unit steps old new ends.ReadFault → StopsAsMeant unit keep steps old new
  stopped_at executed =
      let r = executed.runs in
      let l = r.before.leaves in
      record {
        written = _;
        taken = _;
        begins = begun_as_meant r.k executed.fresh r.at executed.is_fresh r.below r.before r.failure.fetches r.failure.mem;
        out = r.failure.out ∙ l.put;
        input = subst (λ i. SourceFails i new.input) l.left r.failure.input;
      }

  -- the output failed at a byte
  broke_off_at : HasExecuted unit steps old new ends.WriteFault → BreaksOffAsMeant unit keep steps old new
  broke_off_at executed =
      let r = executed.runs in
      let l = r.before.leaves in
      record {
        written = _;
        taken = _;
        begins = begun_as_meant r.k executed.fresh r.at executed.is_fresh r.below r.before r.failure.fetches r.failure.mem;
        out = subst (λ o. SinkFails o new.out) l.put r.failure.out;
        input = r.failure.input ∙ l.left;
      }

  -- ---- each end

  -- a run that finishes otherwise than by a failed flush
  finishes_as_meant : (ended : Ended) → (ended ≡ WriteFault → ⊥) → Finishes unit keep steps old new ended →
      EndsAsMeant unit keep steps old new ended
  finishes_as_meant ended other f = by_flush f.flushes where
    by_flush : Flushes f.as_answered f.mid new.out ended → EndsAsMeant unit keep steps old new ended
    by_flush (inl flushed) =
        subst (EndsAsMeant unit keep steps old new) (sym flushed.0)
        (ended_as_meant f.mid f.end f.as_answered f.ends_so f.runs flushed.1)
    by_flush (inr failed) = absurd (other failed.0)

  -- and one that finishes by it
  flush_fails_as_meant : Finishes unit keep steps old new WriteFault → BreaksOffAsMeant unit keep steps old new
  flush_fails_as_meant f = by_flush f.flushes where
    by_flush : Flushes f.as_answered f.mid new.out WriteFault → BreaksOffAsMeant unit keep steps old new
    by_flush (inl flushed) = absurd (ends_without_flush unit keep steps f.end f.as_answered f.ends_so (sym flushed.0))
    by_flush (inr failed) = broke_off_at_flush f.mid f.end f.as_answered f.ends_so f.runs failed.1

  -- so each end of a run has to do with the source what it should
  is_meant : (ended : Ended) → Executes unit keep steps old new ended → IsMeant unit keep steps old new ended
  is_meant (Exit value) f = finishes_as_meant (Exit value) (λ e. cc) f
  is_meant (Checked kind row line) f = finishes_as_meant (Checked kind row line) (λ e. cc) f
  is_meant Spent f = finishes_as_meant Spent (λ e. cc) f
  is_meant (Trap cause pc value) f = finishes_as_meant (Trap cause pc value) (λ e. cc) f
  is_meant (Limit limit) f = finishes_as_meant (Limit limit) (λ e. cc) f
  is_meant ReadFault executed = stopped_at executed
  is_meant WriteFault (inl executed) = broke_off_at executed
  is_meant WriteFault (inr f) = flush_fails_as_meant f

-- and so it has where its rows say what is kept
pub rows_run_is_meant : (file : List ℕ) (unit : TypedUnit) (rows : List KeptRow) (steps : ℕ) (old new : Outside) (ended : Ended) →
    CanRun (project_of unit) → AreRows file unit rows → old.memory.mem ≡ image (project_of unit) (keep_of rows) → ReportsBytes old.input →
    Executes unit (keep_of rows) steps old new ended → IsMeant unit (keep_of rows) steps old new ended
rows_run_is_meant file unit rows steps old new ended can are image_is bytes executed =
    let enough = rows_keep_enough file unit rows can are in
    is_meant unit (keep_of rows) steps old new (record { can = can; enough = enough; image_is = image_is; bytes = bytes }) ended executed
