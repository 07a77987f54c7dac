-- What is seen of a run is what its source means: the status and the line of an end, and what was done before a call that failed.
use Rattle.std.proofs.Common.{◌≡◌, ℕ, ◌≤◌, List, Ok, Err, ap, sym, subst, ◌∙◌, arith, inl, inr, refl}
use Rattle.std.specs.Prelude.{◌⊎◌}
use Rattle.pw_tree.specs.States.{checked, spent}
use Rattle.pw_tree.specs.Units.{unit_of}
use Rattle.pw_tree.specs.Meaning.{End, exit, stopped}
use Rattle.pw_io.specs.Faults.{Rises}
use Rattle.pw_io.specs.Sink.{wrote, flushed_all}
use Rattle.pw_hart.specs.Outside.{Outside}
use Rattle.pw_module.specs.declared.kept_row.KeptRow.{KeptRow}
use Rattle.pw_image.specs.Rows.{keep_of}
use Rattle.pw_build.specs.declared.run.Ended.{Ended}
use Rattle.pw_build.specs.declared.run.Ended.TheVariants.{Exit, Checked, Spent, Trap, Limit, ReadFault, WriteFault}
use Rattle.pw_build.specs.Meant.{ReportsBytes, meaning_of, IsMeant}
use Rattle.pw_cmd.specs.declared.answer.Ending.{Ending}
use Rattle.pw_cmd.specs.declared.answer.Stop.TheVariants.{Usage, Refused, ReadFailed, WriteFailed, NoMemory}
use Rattle.pw_cmd.specs.Answer.{Answer, status_of_ending, as_line, message_line}
use Rattle.pw_cmd.specs.Answers.{Answers}
use Rattle.pw_cmd.specs.Ends.{status_of_end}
use Rattle.pw_cmd.specs.Message.{unreported}
use Rattle.pw_cmd.specs.Primitives.{ending_of}
use Rattle.pw_cmd.specs.Laws.{stop_in, LeavesAll, RefusesCleanly}
use Rattle.pw_cmd.specs.Shows.{RunsToItsEnd, meant_end, ShowsMeaning, StopsShort, BreaksShort, WasDone, Means}
use Rattle.pw_cmd.proofs.CommandLaws.{words_cleanly}
use Rattle.pw_cmd.proofs.Inversion.{ok_is_not_err, err_same}
use Rattle.pw_cmd.proofs.Began.{Ran, CameTo, no_command, no_memory, not_read, refused, ran, came_to}
use Rattle.pw_cmd.proofs.Statuses.{IsOfEnding, value_status, told_ending, told_read, told_write}
use Rattle.pw_cmd.proofs.MeantEnds.{ends_as_meant, status_meant, text_meant}

-- ---- the ends

-- no end that is meant has the status of a trap
end_status : (end : End) → status_of_end end ≤ 5
end_status (exit value) = omega (arith, value_status value)
end_status (stopped (checked fault d line)) = omega arith
end_status (stopped spent) = omega arith

-- the status of an end that is meant is one of an ending
of_meaning : (status : ℕ) → (status ≡ 0) ⊎ ((status ≡ 1) ⊎ ((status ≡ 4) ⊎ (status ≡ 5))) → IsOfEnding status
of_meaning status (inl zero) = inl (omega (arith, zero))
of_meaning status (inr (inl one)) = inl (omega (arith, one))
of_meaning status (inr (inr (inl four))) = inr (inl four)
of_meaning status (inr (inr (inr five))) = inr (inr (inl five))

-- only a failed call of the input, or of the output, is answered as such
input_failed : (rows : List KeptRow) (ended : Ended) → ending_of rows ended ≡ Err ReadFailed → ended ≡ ReadFault
input_failed rows (Exit value) e = absurd (ok_is_not_err e)
input_failed rows (Checked kind row line) e = absurd (ok_is_not_err e)
input_failed rows Spent e = absurd (ok_is_not_err e)
input_failed rows (Trap cause pc value) e = absurd (ok_is_not_err e)
input_failed rows (Limit limit) e = absurd (ok_is_not_err e)
input_failed rows ReadFault e = refl
input_failed rows WriteFault e = let same = err_same e in cc

output_failed : (rows : List KeptRow) (ended : Ended) → ending_of rows ended ≡ Err WriteFailed → ended ≡ WriteFault
output_failed rows (Exit value) e = absurd (ok_is_not_err e)
output_failed rows (Checked kind row line) e = absurd (ok_is_not_err e)
output_failed rows Spent e = absurd (ok_is_not_err e)
output_failed rows (Trap cause pc value) e = absurd (ok_is_not_err e)
output_failed rows (Limit limit) e = absurd (ok_is_not_err e)
output_failed rows ReadFault e = let same = err_same e in cc
output_failed rows WriteFault e = refl

-- what is left as it was before the report is left so after it
pub left_all : (old new : Outside) → LeavesAll old (unreported old new) → LeavesAll old new
left_all old new l = record { files = l.files; input = l.input; out = l.out; memory = l.memory }

module _ (words : List (List ℕ)) (old new : Outside) (status : ℕ) (answer : Answer) (bytes : ReportsBytes old.input) where
  -- ---- a run

  -- the input was of bytes as it began
  meant_from : (r : Ran words old new answer) →
      IsMeant (unit_of r.began.unit) (keep_of r.began.rows) r.began.request.steps r.start (unreported old new) r.ended
  meant_from r = r.meant (subst (λ input. ReportsBytes input) (sym r.began.input) bytes)

  meant_at : (r : Ran words old new answer) (ended : Ended) → r.ended ≡ ended →
      IsMeant (unit_of r.began.unit) (keep_of r.began.rows) r.began.request.steps r.start (unreported old new) ended
  meant_at r ended is =
      let b = r.began in
      subst (λ e. IsMeant (unit_of b.unit) (keep_of b.rows) b.request.steps r.start (unreported old new) e) is (meant_from r)

  -- what is seen of one that ended with an ending
  shown : (r : Ran words old new answer) (ending : Ending) → answer ≡ Ok ending → status ≡ status_of_ending ending →
      new.messages ≡ flushed_all (wrote (message_line words answer) old.messages) → ShowsMeaning words old new status
  shown r ending is said line =
      let b = r.began in
      let unit = unit_of b.unit in
      let same = sym r.answer_is ∙ is in
      let m = ends_as_meant unit (keep_of b.rows) b.request.steps r.start (unreported old new) b.rows r.ended ending same (meant_from r) in
      let end = (meaning_of unit m.input b.request.steps).end in
      record {
        run = record { start = r.start; began = b; ended = r.ended; meant = m };
        status_is = said ∙ status_meant unit b.rows end r.ended ending m.ends same;
        line = line ∙ ap (λ a. flushed_all (wrote (message_line words a) old.messages)) is
            ∙ ap (λ text. flushed_all (wrote (as_line text) old.messages))
            (text_meant b.request.file unit b.rows b.built.rows_are end r.ended ending m.ends same);
      }

  -- ---- what the words came to

  shown_by : CameTo words old new answer → (ending : Ending) → answer ≡ Ok ending → status ≡ status_of_ending ending →
      new.messages ≡ flushed_all (wrote (message_line words answer) old.messages) → ShowsMeaning words old new status
  shown_by (ran r) ending is said line = shown r ending is said line
  shown_by (no_command c e) ending is said line = absurd (ok_is_not_err (sym is ∙ e))
  shown_by (no_memory request asks e) ending is said line = absurd (ok_is_not_err (sym is ∙ e))
  shown_by (not_read request asks left e) ending is said line = absurd (ok_is_not_err (sym is ∙ e))
  shown_by (refused request text why asks stands for e) ending is said line = absurd (ok_is_not_err (sym is ∙ e))

  -- a failed read was that of the file, or it ended a run
  stopped_by : CameTo words old new answer → answer ≡ Err ReadFailed → LeavesAll old new ⊎ StopsShort words old new
  stopped_by (not_read request asks left e) is = inl left
  stopped_by (ran r) is =
      let ended = input_failed r.began.rows r.ended (sym r.answer_is ∙ is) in
      inr (record { start = r.start; began = r.began; stops = meant_at r ReadFault ended })
  stopped_by (no_command c e) is = let same = err_same (sym is ∙ e) in cc
  stopped_by (no_memory request asks e) is = let same = err_same (sym is ∙ e) in cc
  stopped_by (refused request text why asks stands for e) is = let same = err_same (sym is ∙ e) in cc

  -- a failed write ended a run
  broken_by : CameTo words old new answer → answer ≡ Err WriteFailed → BreaksShort words old new
  broken_by (ran r) is =
      let ended = output_failed r.began.rows r.ended (sym r.answer_is ∙ is) in
      record { start = r.start; began = r.began; breaks = meant_at r WriteFault ended }
  broken_by (no_command c e) is = let same = err_same (sym is ∙ e) in cc
  broken_by (no_memory request asks e) is = let same = err_same (sym is ∙ e) in cc
  broken_by (not_read request asks left e) is = let same = err_same (sym is ∙ e) in cc
  broken_by (refused request text why asks stands for e) is = let same = err_same (sym is ∙ e) in cc

  -- ---- what was done

  -- a run did what its source means, or the beginning of it
  done_by_run : Ran words old new answer → RunsToItsEnd words old new ⊎ (StopsShort words old new ⊎ BreaksShort words old new)
  done_by_run r = by_end r.ended refl where
    Done : Type 0
    Done = RunsToItsEnd words old new ⊎ (StopsShort words old new ⊎ BreaksShort words old new)

    by_end : (ended : Ended) → r.ended ≡ ended → Done
    by_end (Exit value) is = inl (record { start = r.start; began = r.began; ended = Exit value; meant = meant_at r (Exit value) is })
    by_end (Checked kind row line) is =
        inl (record { start = r.start; began = r.began; ended = Checked kind row line; meant = meant_at r (Checked kind row line) is })
    by_end Spent is = inl (record { start = r.start; began = r.began; ended = Spent; meant = meant_at r Spent is })
    by_end (Trap cause pc value) is =
        inl (record { start = r.start; began = r.began; ended = Trap cause pc value; meant = meant_at r (Trap cause pc value) is })
    by_end (Limit limit) is =
        inl (record { start = r.start; began = r.began; ended = Limit limit; meant = meant_at r (Limit limit) is })
    by_end ReadFault is = inr (inl (record { start = r.start; began = r.began; stops = meant_at r ReadFault is }))
    by_end WriteFault is = inr (inr (record { start = r.start; began = r.began; breaks = meant_at r WriteFault is }))

  -- a command that did not run left all as it was
  done_by : CameTo words old new answer → RefusesCleanly old (unreported old new) (stop_in answer) → WasDone words old new
  done_by (ran r) law = inr (done_by_run r)
  done_by (not_read request asks left e) law = inl left
  done_by (no_command c e) law = inl (left_all old new (subst (λ a. RefusesCleanly old (unreported old new) (stop_in a)) e law))
  done_by (no_memory request asks e) law = inl (left_all old new (subst (λ a. RefusesCleanly old (unreported old new) (stop_in a)) e law))
  done_by (refused request text why asks stands for e) law =
      inl (left_all old new (subst (λ a. RefusesCleanly old (unreported old new) (stop_in a)) e law))

-- a status of an end is that of the end that is meant
pub means : (words : List (List ℕ)) (old new : Outside) (status : ℕ) → Answers words old new status → Means words old new status
means words old new status a bytes = record {
  shows = λ which. shows (of_meaning status which);
  no_trap = λ nine. let s = shows (inr (inr (inr nine))) in
      omega (arith, nine, s.status_is, end_status (meant_end s.run));
  read_failed = λ six. let told = told_read line old.messages new.messages status a.answer a.reported six in
      stopped_by words old new status a.answer bytes came told.0;
  write_failed = λ seven. by_write (told_write line old.messages new.messages status a.answer a.reported seven);
}
  where
    line : List ℕ
    line = message_line words a.answer

    came : CameTo words old new a.answer
    came = came_to words old new a.answer a.performed

    shows : IsOfEnding status → ShowsMeaning words old new status
    shows is =
        let told = told_ending line old.messages new.messages status a.answer a.reported is in
        shown_by words old new status a.answer bytes came told.0 told.1 told.2 told.3

    by_write : ((a.answer ≡ Err WriteFailed) × (new.messages ≡ flushed_all (wrote line old.messages)))
        ⊎ Rises old.messages.faults new.messages.faults →
        BreaksShort words old new ⊎ (Rises old.messages.faults new.messages.faults × WasDone words old new)
    by_write (inl told) = inl (broken_by words old new status a.answer bytes came told.0)
    by_write (inr rose) =
        inr (rose, done_by words old new status a.answer bytes came (words_cleanly words old (unreported old new) a.answer a.performed))
