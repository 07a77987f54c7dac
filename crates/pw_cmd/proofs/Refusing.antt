-- What is refused, and for what: the words, the fault of a text, or memory; and what is left then.
use Rattle.std.proofs.Common.{◌≡◌, ℕ, List, ap, sym, subst, ◌∙◌, Ok, Err, inl, inr}
use Rattle.std.specs.Prelude.{◌⊎◌}
use Rattle.pw_io.specs.Faults.{Rises}
use Rattle.pw_io.specs.Sink.{wrote, flushed_all}
use Rattle.pw_hart.specs.Outside.{Outside}
use Rattle.pw_module.specs.declared.kept_row.KeptRow.{KeptRow}
use Rattle.pw_build.specs.declared.run.Ended.{Ended}
use Rattle.pw_cmd.specs.declared.answer.Stop.{Stop}
use Rattle.pw_cmd.specs.declared.answer.Stop.TheVariants.{Usage, Refused, ReadFailed, WriteFailed, NoMemory}
use Rattle.pw_cmd.specs.declared.refusal.Refusal.{Refusal}
use Rattle.pw_cmd.specs.declared.words.Request.{Request}
use Rattle.pw_cmd.specs.Answer.{Answer, message_line, status_of}
use Rattle.pw_cmd.specs.Answers.{Answers}
use Rattle.pw_cmd.specs.Message.{unreported, Reports}
use Rattle.pw_cmd.specs.Primitives.{ending_of}
use Rattle.pw_cmd.specs.Words.{AsksForOne}
use Rattle.pw_cmd.specs.Laws.{stop_in, LeavesAll, RefusesCleanly, NoneFailed}
use Rattle.pw_cmd.specs.Shows.{AsksForText, CountsCanRise, IsProgram, IsRefused, SaysStop, WasRefused, RefusesFaults}
use Rattle.pw_cmd.proofs.CommandLaws.{words_cleanly}
use Rattle.pw_cmd.proofs.Inversion.{ok_is_not_err, err_same}
use Rattle.pw_cmd.proofs.Began.{CameTo, no_command, no_memory, not_read, refused, ran, came_to}
use Rattle.pw_cmd.proofs.Completes.{same_request, same_text, same_refusal}
use Rattle.pw_cmd.proofs.Failures.{no_failed_read, said_well}
use Rattle.pw_cmd.proofs.MeantEnds.{answered}
use Rattle.pw_cmd.proofs.OneRefusal.{one_refusal, not_refused}
use Rattle.pw_cmd.proofs.ShowsMeaning.{left_all}
use Rattle.pw_cmd.proofs.Statuses.{told_usage, told_refusal, told_memory}

-- ---- a run is no refusal

-- it stops for a failed call alone
run_stops : (rows : List KeptRow) (ended : Ended) (why : Stop) → ending_of rows ended ≡ Err why → (why ≡ ReadFailed) ⊎ (why ≡ WriteFailed)
run_stops rows ended why is = by_answer (answered rows ended) where
  by_answer : ((ending : _) × (ending_of rows ended ≡ Ok ending))
      ⊎ ((ending_of rows ended ≡ Err ReadFailed) ⊎ (ending_of rows ended ≡ Err WriteFailed)) → (why ≡ ReadFailed) ⊎ (why ≡ WriteFailed)
  by_answer (inl told) = absurd (ok_is_not_err (sym told.1 ∙ is))
  by_answer (inr (inl failed)) = inl (err_same (sym is ∙ failed))
  by_answer (inr (inr failed)) = inr (err_same (sym is ∙ failed))

not_usage : (Usage ≡ ReadFailed) ⊎ (Usage ≡ WriteFailed) → ⊥
not_usage (inl e) = cc
not_usage (inr e) = cc

not_refusal : (why : Refusal) → (Refused why ≡ ReadFailed) ⊎ (Refused why ≡ WriteFailed) → ⊥
not_refusal why (inl e) = cc
not_refusal why (inr e) = cc

refusal_same : (a b : Refusal) → Refused a ≡ Refused b → a ≡ b
refusal_same a b e = cc

module _ (words : List (List ℕ)) (old new : Outside) (status : ℕ) (answer : Answer) where
  -- ---- the words

  -- words that are told to be of no command are of none
  of_none : CameTo words old new answer → answer ≡ Err Usage → (request : Request) → ¬ AsksForOne words request
  of_none (no_command c e) is = c
  of_none (ran r) is = absurd (not_usage (run_stops r.began.rows r.ended Usage (sym r.answer_is ∙ is)))
  of_none (no_memory request asks e) is = let same = err_same (sym is ∙ e) in cc
  of_none (not_read request asks left e) is = let same = err_same (sym is ∙ e) in cc
  of_none (refused request text why asks stands for e) is = let same = err_same (sym is ∙ e) in cc

  -- and words that are of none are told so
  told_none : CameTo words old new answer → ((request : Request) → ¬ AsksForOne words request) → answer ≡ Err Usage
  told_none (no_command c is) none = is
  told_none (ran r) none = absurd (none r.began.request r.began.asks)
  told_none (no_memory request asks is) none = absurd (none request asks)
  told_none (not_read request asks left is) none = absurd (none request asks)
  told_none (refused request text why asks stands for is) none = absurd (none request asks)

  said_none : Reports (message_line words answer) (status_of answer) old.messages new.messages status → answer ≡ Err Usage →
      RefusesCleanly old (unreported old new) (stop_in answer) →
      (status ≡ 2) ⊎ ((status ≡ 7) × Rises old.messages.faults new.messages.faults × LeavesAll old new)
  said_none (inl said) is law = inl (said.0 ∙ ap status_of is)
  said_none (inr broke) is law =
      inr (broke.0, broke.1.fails.faults, left_all old new (subst (λ a. RefusesCleanly old (unreported old new) (stop_in a)) is law))

  -- the line of a stop was said
  said_stop : (why : Stop) → answer ≡ Err why → new.messages ≡ flushed_all (wrote (message_line words answer) old.messages) →
      SaysStop words old new why
  said_stop why is said = said ∙ ap (λ a. flushed_all (wrote (message_line words a) old.messages)) is

  -- ---- a text

  -- what is told to be refused has the fault
  was_refused : CameTo words old new answer → (why : Refusal) → answer ≡ Err (Refused why) →
      new.messages ≡ flushed_all (wrote (message_line words answer) old.messages) → WasRefused words old new
  was_refused (refused request text found asks stands for e) why is said = record {
    request = request;
    asks = asks;
    text = text;
    stands = stands;
    refusal = found;
    is = for;
    line = said ∙ ap (λ a. flushed_all (wrote (message_line words a) old.messages)) e;
  }
  was_refused (ran r) why is said = absurd (not_refusal why (run_stops r.began.rows r.ended (Refused why) (sym r.answer_is ∙ is)))
  was_refused (no_command c e) why is said = let same = err_same (sym is ∙ e) in cc
  was_refused (no_memory request asks e) why is said = let same = err_same (sym is ∙ e) in cc
  was_refused (not_read request asks left e) why is said = let same = err_same (sym is ∙ e) in cc

-- ---- all of it

pub refuses : (words : List (List ℕ)) (old new : Outside) (status : ℕ) → Answers words old new status → RefusesFaults words old new status
refuses words old new status a = record {
  usage = λ two. let told = told_usage line old.messages new.messages status a.answer a.reported two in (
    of_none words old new status a.answer came told.0,
    said_stop words old new status a.answer Usage told.0 told.1,
  );
  no_command = λ none. said_none words old new status a.answer a.reported (told_none words old new status a.answer came none) law;
  refused = λ three. let told = told_refusal line old.messages new.messages status a.answer a.reported three in
      was_refused words old new status a.answer came told.0 told.1 told.2;
  refuses = has_fault;
  memory = λ eight. let told = told_memory line old.messages new.messages status a.answer a.reported eight in
      said_stop words old new status a.answer NoMemory told.0 told.1;
  leaves = leaves;
}
  where
    line : List ℕ
    line = message_line words a.answer

    came : CameTo words old new a.answer
    came = came_to words old new a.answer a.performed

    law : RefusesCleanly old (unreported old new) (stop_in a.answer)
    law = words_cleanly words old (unreported old new) a.answer a.performed

    leaves : (status ≡ 2) ⊎ ((status ≡ 3) ⊎ (status ≡ 8)) → LeavesAll old new
    leaves (inl two) =
        let told = told_usage line old.messages new.messages status a.answer a.reported two in
        left_all old new (subst (λ answer. RefusesCleanly old (unreported old new) (stop_in answer)) told.0 law)
    leaves (inr (inl three)) =
        let told = told_refusal line old.messages new.messages status a.answer a.reported three in
        left_all old new (subst (λ answer. RefusesCleanly old (unreported old new) (stop_in answer)) told.1 law)
    leaves (inr (inr eight)) =
        let told = told_memory line old.messages new.messages status a.answer a.reported eight in
        left_all old new (subst (λ answer. RefusesCleanly old (unreported old new) (stop_in answer)) told.0 law)

    -- a text with a fault is refused for it
    has_fault : (request : Request) (text : List ℕ) (refusal : Refusal) → AsksForText words old.store.files request text →
        IsRefused request text refusal → CountsCanRise old → NoneFailed old new →
        ((status ≡ 3) × SaysStop words old new (Refused refusal)) ⊎ (status ≡ 8)
    has_fault request text refusal p is low none = by_way came where
      said : (status ≡ status_of a.answer) × (new.messages ≡ flushed_all (wrote line old.messages))
      said = said_well words old new low none a.answer a.performed line status a.reported

      by_way : CameTo words old new a.answer → ((status ≡ 3) × SaysStop words old new (Refused refusal)) ⊎ (status ≡ 8)
      by_way (refused other found why asks stands for e) =
          let for_it = same_refusal words old.store.files request text p other asks found why stands for in
          let same = one_refusal request text why refusal for_it is in
          let told : a.answer ≡ Err (Refused refusal) = e ∙ ap (λ why. Err (Refused why)) same in
          inl (said.0 ∙ ap status_of told, said.1 ∙ ap (λ a. flushed_all (wrote (message_line words a) old.messages)) told)
      by_way (no_memory other asks e) = inr (said.0 ∙ ap status_of e)
      by_way (no_command c e) = absurd (c request p.asks)
      by_way (not_read other asks left e) = absurd (no_failed_read words old new low none a.answer a.performed e)
      by_way (ran r) =
          let b = r.began in
          let program : IsProgram b.request b.text b.unit = record {
            has_unit = record { short = b.read.short; is_unit = b.is_unit };
            links = b.built.links;
            bound = b.built.bound;
          } in
          let same = same_request words old.store.files request text p b.request b.asks in
          let found = same_text words old.store.files request text p b.request b.asks b.text b.read.stands in
          absurd (not_refused request text b.unit refusal
          (subst (λ t. IsProgram request t b.unit) found (subst (λ q. IsProgram q b.text b.unit) same program)) is)
