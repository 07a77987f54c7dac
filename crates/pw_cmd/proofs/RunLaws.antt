-- The laws that the run of an image obeys: which counts of failures rise, what it leaves, and that it never refuses.
use Rattle.std.proofs.Common.{◌≡◌, ◌≢◌, ℕ, List, [], Option, Some, None, ap, sym, subst, ◌∙◌, inl, inr}
use Rattle.pw_tree.specs.Units.{TypedUnit}
use Rattle.pw_io.specs.Faults.{Rises}
use Rattle.pw_hart.specs.declared.hart.Hart.{Hart}
use Rattle.pw_hart.specs.declared.ends.End.{End}
use Rattle.pw_hart.specs.declared.ends.End.TheVariants as ends
use Rattle.pw_hart.specs.Runs.{RunsTo}
use Rattle.pw_hart.specs.Outside.{Outside, execution}
use Rattle.pw_cmd.specs.declared.answer.Stop.{Stop}
use Rattle.pw_module.specs.declared.kept_row.KeptRow.{KeptRow}
use Rattle.pw_agree.specs.Kept.{Keep}
use Rattle.pw_image.specs.Rows.{keep_of}
use Rattle.pw_build.specs.declared.run.Ended.{Ended}
use Rattle.pw_build.specs.declared.run.Ended.TheVariants.{Exit, Checked, Spent, Trap, Limit, ReadFault, WriteFault}
use Rattle.pw_build.specs.Executed.{EndsSo, HasExecuted, Flushes, Finishes, Executes}
use Rattle.pw_cmd.specs.Primitives.{ending_of, runs_image}
use Rattle.pw_cmd.specs.Laws.{stop_in, Obeys, NoneFailed, ReadFailedAlone, WriteFailedAlone, FailuresStop, NeverRefuses, MakesCalls}
use Rattle.pw_cmd.proofs.Composition.{no_calls, makes_none}

-- ---- the machine's run

-- a run that the machine ends has no failed call
counts_of : (old new : Outside) (fresh last : Hart) (n : ℕ) (end : End) → RunsTo n (execution fresh old) (execution last new) end →
    new.store ≡ old.store → new.messages ≡ old.messages → NoneFailed old new
counts_of old new fresh last n end r files messages = record {
  store = ap (λ s. s.faults) files;
  input = ap (λ s. s.faults) r.leaves.left;
  out = ap (λ s. s.faults) r.leaves.put;
  messages = ap (λ s. s.faults) messages;
}

module _ (unit : TypedUnit) (keep : Keep) (steps : ℕ) where
  -- so an end that is answered is none of a failed call
  none_failed_in : (old new : Outside) (end : End) (as_answered : Ended) → EndsSo unit keep steps end as_answered →
      HasExecuted unit steps old new end → NoneFailed old new
  none_failed_in old new end (Exit value) so h =
      let e = subst (λ end. HasExecuted unit steps old new end) so h in
      counts_of old new e.fresh e.last _ (ends.Exit value) e.runs e.files e.messages
  none_failed_in old new end (Checked kind row line) so h =
      let e = subst (λ end. HasExecuted unit steps old new end) so.1 h in
      counts_of old new e.fresh e.last _ (ends.Checked kind line so.0) e.runs e.files e.messages
  none_failed_in old new end Spent so h =
      let e = subst (λ end. HasExecuted unit steps old new end) so h in
      counts_of old new e.fresh e.last _ ends.Spent e.runs e.files e.messages
  none_failed_in old new end (Trap cause pc value) so h =
      let e = subst (λ end. HasExecuted unit steps old new end) so h in
      counts_of old new e.fresh e.last _ (ends.Trap cause pc value) e.runs e.files e.messages
  none_failed_in old new end (Limit limit) so h =
      let e = subst (λ end. HasExecuted unit steps old new end) so.0 h in
      counts_of old new e.fresh e.last _ ends.Limit e.runs e.files e.messages
  none_failed_in old new end ReadFault so h = absurd so
  none_failed_in old new end WriteFault so h = absurd so

  -- the flush does not fail where that is not the end
  flushed_well : (old new : Outside) (ended : Ended) → Finishes unit keep steps old new ended → ended ≢ WriteFault → NoneFailed old new
  flushed_well old new ended f known = by_flush f.flushes where
    before : NoneFailed old (record new { out = f.mid })
    before = none_failed_in old (record new { out = f.mid }) f.end f.as_answered f.ends_so f.runs

    by_flush : Flushes f.as_answered f.mid new.out ended → NoneFailed old new
    by_flush (inl well) = record {
      store = before.store;
      input = before.input;
      out = ap (λ s. s.faults) well.1 ∙ before.out;
      messages = before.messages;
    }
    by_flush (inr broke) = absurd (known broke.0)

  -- where it is the end, the flush failed
  flush_failed : (old new : Outside) → Finishes unit keep steps old new WriteFault → WriteFailedAlone old new
  flush_failed old new f = by_flush f.flushes where
    before : NoneFailed old (record new { out = f.mid })
    before = none_failed_in old (record new { out = f.mid }) f.end f.as_answered f.ends_so f.runs

    by_flush : Flushes f.as_answered f.mid new.out WriteFault → WriteFailedAlone old new
    by_flush (inl well) = absurd (subst (λ answered. EndsSo unit keep steps f.end answered) (sym well.0) f.ends_so)
    by_flush (inr broke) = record {
      out = subst (λ k. Rises k new.out.faults) before.out broke.1.faults;
      store = before.store;
      input = before.input;
      messages = before.messages;
    }

  -- the input failed
  input_failed : (old new : Outside) → HasExecuted unit steps old new ends.ReadFault → ReadFailedAlone old new
  input_failed old new h =
      let earlier = h.runs.before.leaves in
      record {
        failed = inr (
          ap (λ s. s.faults) h.files,
          subst (λ k. Rises k new.input.faults) (ap (λ s. s.faults) earlier.left) h.runs.failure.input.faults,
        );
        out = ap (λ s. s.faults) h.runs.failure.out ∙ ap (λ s. s.faults) earlier.put;
        messages = ap (λ s. s.faults) h.messages;
      }

  -- the output failed at a byte
  output_failed : (old new : Outside) → HasExecuted unit steps old new ends.WriteFault → WriteFailedAlone old new
  output_failed old new h =
      let earlier = h.runs.before.leaves in
      record {
        out = subst (λ k. Rises k new.out.faults) (ap (λ s. s.faults) earlier.put) h.runs.failure.out.faults;
        store = ap (λ s. s.faults) h.files;
        input = ap (λ s. s.faults) h.runs.failure.input ∙ ap (λ s. s.faults) earlier.left;
        messages = ap (λ s. s.faults) h.messages;
      }

  -- a run leaves the files and the messages as they are
  run_leaves : (old new : Outside) (ended : Ended) → Executes unit keep steps old new ended →
      (new.store ≡ old.store) × (new.messages ≡ old.messages)
  run_leaves old new (Exit value) e = (e.runs.files, e.runs.messages)
  run_leaves old new (Checked kind row line) e = (e.runs.files, e.runs.messages)
  run_leaves old new Spent e = (e.runs.files, e.runs.messages)
  run_leaves old new (Trap cause pc value) e = (e.runs.files, e.runs.messages)
  run_leaves old new (Limit limit) e = (e.runs.files, e.runs.messages)
  run_leaves old new ReadFault e = (e.files, e.messages)
  run_leaves old new WriteFault (inl e) = (e.files, e.messages)
  run_leaves old new WriteFault (inr e) = (e.runs.files, e.runs.messages)

-- ---- the stage

module _ (unit : TypedUnit) (rows : List KeptRow) (steps : ℕ) where
  pub run_keeps_files : (old new : Outside) (result : _) → runs_image unit rows steps old new result → new.store ≡ old.store
  run_keeps_files old new result r = (run_leaves unit (keep_of rows) steps old new r.ended r.executes).0

  pub runs_failures : Obeys FailuresStop (runs_image unit rows steps)
  runs_failures old new result r = subst (λ answer. FailuresStop old new (stop_in answer)) (sym r.result_is) (by_end r.ended r.executes)
    where
      keep : Keep
      keep = keep_of rows

      by_end : (ended : Ended) → Executes unit keep steps old new ended → FailuresStop old new (stop_in (ending_of rows ended))
      by_end (Exit value) e = flushed_well unit keep steps old new (Exit value) e (λ is. cc)
      by_end (Checked kind row line) e = flushed_well unit keep steps old new (Checked kind row line) e (λ is. cc)
      by_end Spent e = flushed_well unit keep steps old new Spent e (λ is. cc)
      by_end (Trap cause pc value) e = flushed_well unit keep steps old new (Trap cause pc value) e (λ is. cc)
      by_end (Limit limit) e = flushed_well unit keep steps old new (Limit limit) e (λ is. cc)
      by_end ReadFault e = input_failed unit keep steps old new e
      by_end WriteFault (inl e) = output_failed unit keep steps old new e
      by_end WriteFault (inr e) = flush_failed unit keep steps old new e

  pub runs_never_refuse : Obeys NeverRefuses (runs_image unit rows steps)
  runs_never_refuse old new result r = subst (λ answer. NeverRefuses old new (stop_in answer)) (sym r.result_is) (by_end r.ended)
    where
      by_end : (ended : Ended) → NeverRefuses old new (stop_in (ending_of rows ended))
      by_end (Exit value) = tt
      by_end (Checked kind row line) = tt
      by_end Spent = tt
      by_end (Trap cause pc value) = tt
      by_end (Limit limit) = tt
      by_end ReadFault = tt
      by_end WriteFault = tt

  pub runs_calls : Obeys (MakesCalls []) (runs_image unit rows steps)
  runs_calls old new result r = by_stop (stop_in result)
    where
      same : new.store.calls ≡ old.store.calls
      same = ap (λ s. s.calls) (run_keeps_files old new result r)

      by_stop : (stop : Option Stop) → MakesCalls [] old new stop
      by_stop None = no_calls old.store new.store same
      by_stop (Some why) = makes_none [] old.store new.store same
