-- What a status tells of failed calls.
use Rattle.std.proofs.Common.{◌≡◌, ◌≢◌, ℕ, ◌+◌, ◌-◌, ◌^◌, ◌<◌, ◌≤◌, min, List, ap, sym, subst, ◌∙◌, arith, Ok, Err, inl, inr}
use Rattle.std.specs.Prelude.{◌⊎◌}
use Rattle.pw_io.specs.Faults.{Rises}
use Rattle.pw_io.specs.Sink.{wrote, flushed_all}
use Rattle.pw_hart.specs.Outside.{Outside}
use Rattle.pw_cmd.specs.declared.answer.Stop.{Stop}
use Rattle.pw_cmd.specs.declared.answer.Stop.TheVariants.{Usage, Refused, ReadFailed, WriteFailed, NoMemory}
use Rattle.pw_cmd.specs.declared.words.Request.{Request}
use Rattle.pw_cmd.specs.Answer.{Answer, message_line, status_of}
use Rattle.pw_cmd.specs.Answers.{Answers}
use Rattle.pw_cmd.specs.Message.{unreported, Reports}
use Rattle.pw_cmd.specs.Words.{AsksForOne}
use Rattle.pw_cmd.specs.Commands.{performs}
use Rattle.pw_cmd.specs.Laws.{stop_in, NoneFailed, ReadFailedAlone, WriteFailedAlone, FailuresStop}
use Rattle.pw_cmd.specs.Shows.{ReportsFailures, SaysStop, CountsCanRise}
use Rattle.pw_cmd.proofs.CommandLaws.{words_failures}
use Rattle.pw_cmd.proofs.Inversion.{err_same}
use Rattle.pw_cmd.proofs.Began.{CameTo, no_command, no_memory, not_read, refused, ran, came_to}
use Rattle.pw_cmd.proofs.Statuses.{told_read, told_write}

module _ (old new : Outside) where
  -- ---- the counts once a line was said

  read_alone : ReadFailedAlone old (unreported old new) → new.messages.faults ≡ old.messages.faults → ReadFailedAlone old new
  read_alone f messages = record { failed = f.failed; out = f.out; messages = messages }

  write_alone : WriteFailedAlone old (unreported old new) → new.messages.faults ≡ old.messages.faults → WriteFailedAlone old new
  write_alone f messages = record { out = f.out; store = f.store; input = f.input; messages = messages }

  none_with : NoneFailed old (unreported old new) → new.messages.faults ≡ old.messages.faults → NoneFailed old new
  none_with none messages = record { store = none.store; input = none.input; out = none.out; messages = messages }

  -- ---- what a status tells

  -- a failed read had a file to read, or a run to feed
  asked : (words : List (List ℕ)) (answer : Answer) → CameTo words old new answer → answer ≡ Err ReadFailed →
      (request : Request) × AsksForOne words request
  asked words answer (not_read request asks left e) is = (request, asks)
  asked words answer (ran r) is = (r.began.request, r.began.asks)
  asked words answer (no_command c e) is = let same = err_same (sym is ∙ e) in cc
  asked words answer (no_memory request asks e) is = (request, asks)
  asked words answer (refused request text why asks stands for e) is = (request, asks)

  -- with another status no call failed
  none_else : (line : List ℕ) (status : ℕ) (answer : Answer) → FailuresStop old (unreported old new) (stop_in answer) →
      Reports line (status_of answer) old.messages new.messages status → status ≢ 6 → status ≢ 7 → NoneFailed old new
  none_else line status answer law (inr broke) six seven = absurd (seven broke.0)
  none_else line status (Ok ending) law (inl said) six seven = none_with law (ap (λ m. m.faults) said.1)
  none_else line status (Err Usage) law (inl said) six seven = none_with law (ap (λ m. m.faults) said.1)
  none_else line status (Err (Refused why)) law (inl said) six seven = none_with law (ap (λ m. m.faults) said.1)
  none_else line status (Err ReadFailed) law (inl said) six seven = absurd (six said.0)
  none_else line status (Err WriteFailed) law (inl said) six seven = absurd (seven said.0)
  none_else line status (Err NoMemory) law (inl said) six seven = none_with law (ap (λ m. m.faults) said.1)

-- what the law says of an answer, where the answer is known
failures_of : (old new : Outside) (answer other : Answer) → answer ≡ other → FailuresStop old (unreported old new) (stop_in answer) →
    FailuresStop old (unreported old new) (stop_in other)
failures_of old new answer other is law = subst (λ a. FailuresStop old (unreported old new) (stop_in a)) is law

pub failures : (words : List (List ℕ)) (old new : Outside) (status : ℕ) → Answers words old new status →
    ReportsFailures words old new status
failures words old new status a = record {
  read = read;
  write = λ seven. write (told_write line old.messages new.messages status a.answer a.reported seven);
  none = none_else old new line status a.answer law a.reported;
}
  where
    line : List ℕ
    line = message_line words a.answer

    law : FailuresStop old (unreported old new) (stop_in a.answer)
    law = words_failures words old (unreported old new) a.answer a.performed

    -- the line of a stop was said
    said : (why : Stop) → a.answer ≡ Err why → new.messages ≡ flushed_all (wrote line old.messages) → SaysStop words old new why
    said why is line_said = line_said ∙ ap (λ answer. flushed_all (wrote (message_line words answer) old.messages)) is

    read : status ≡ 6 → (request : Request) × AsksForOne words request × ReadFailedAlone old new × SaysStop words old new ReadFailed
    read six =
        let told = told_read line old.messages new.messages status a.answer a.reported six in
        let asks = asked old new words a.answer (came_to words old new a.answer a.performed) told.0 in
        let alone = failures_of old new a.answer (Err ReadFailed) told.0 law in
        (asks.0, asks.1, read_alone old new alone (ap (λ m. m.faults) told.1), said ReadFailed told.0 told.1)

    write : ((a.answer ≡ Err WriteFailed) × (new.messages ≡ flushed_all (wrote line old.messages)))
        ⊎ Rises old.messages.faults new.messages.faults →
        (WriteFailedAlone old new × SaysStop words old new WriteFailed) ⊎ Rises old.messages.faults new.messages.faults
    write (inl told) =
        let alone = failures_of old new a.answer (Err WriteFailed) told.0 law in
        inl (write_alone old new alone (ap (λ m. m.faults) told.1), said WriteFailed told.0 told.1)
    write (inr rose) = inr rose

-- ---- no call failed

-- a count that rose is not the count before
rises_not_same : (old new : ℕ) → Rises old new → new ≡ old → old < 2 ^ 64 - 1 → ⊥
rises_not_same old new rises same low = let rose : min (old + 1) (2 ^ 64 - 1) ≤ new = rises.rose in absurd (grind arith)

module _ (words : List (List ℕ)) (old new : Outside) (low : CountsCanRise old) (none : NoneFailed old new) (answer : Answer)
    (done : performs words old (unreported old new) answer) where
  law_of : FailuresStop old (unreported old new) (stop_in answer)
  law_of = words_failures words old (unreported old new) answer done

  -- so none is the reason
  pub no_failed_read : answer ≡ Err ReadFailed → ⊥
  no_failed_read is = by_call alone.failed where
    alone : ReadFailedAlone old (unreported old new)
    alone = failures_of old new answer (Err ReadFailed) is law_of

    by_call : (Rises old.store.faults new.store.faults × (new.input.faults ≡ old.input.faults))
        ⊎ ((new.store.faults ≡ old.store.faults) × Rises old.input.faults new.input.faults) → ⊥
    by_call (inl rose) = rises_not_same old.store.faults new.store.faults rose.0 none.store low.store
    by_call (inr rose) = rises_not_same old.input.faults new.input.faults rose.1 none.input low.input

  pub no_failed_write : answer ≡ Err WriteFailed → ⊥
  no_failed_write is =
      let alone = failures_of old new answer (Err WriteFailed) is law_of in
      rises_not_same old.out.faults new.out.faults alone.out none.out low.out

  -- and the answer was reported
  pub said_well : (line : List ℕ) (status : ℕ) → Reports line (status_of answer) old.messages new.messages status →
      (status ≡ status_of answer) × (new.messages ≡ flushed_all (wrote line old.messages))
  said_well line status (inl said) = said
  said_well line status (inr broke) =
      absurd (rises_not_same old.messages.faults new.messages.faults broke.1.fails.faults none.messages low.messages)
