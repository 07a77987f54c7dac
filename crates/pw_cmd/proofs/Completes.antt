-- A program completes where no call fails: the status is that of the end that it means, or memory ran out.
use Rattle.std.proofs.Common.{◌≡◌, ℕ, List, Option, Some, ap, sym, subst, ◌∙◌, Ok, Err, inl, inr}
use Rattle.std.specs.Prelude.{◌⊎◌}
use Rattle.pw_tree.specs.Units.{unit_of}
use Rattle.pw_front.specs.Units.{IsTypedUnitOf}
use Rattle.pw_front.proofs.OneReading.{one_typed_unit}
use Rattle.pw_io.specs.Store.{Files, StandsIn}
use Rattle.pw_hart.specs.Outside.{Outside}
use Rattle.pw_hart.specs.Runs.{IsLeft}
use Rattle.pw_image.specs.Rows.{keep_of}
use Rattle.pw_build.specs.Meant.{ReportsBytes, meaning_of}
use Rattle.pw_cmd.specs.declared.answer.Ending.{Ending}
use Rattle.pw_cmd.specs.declared.answer.Stop.TheVariants.{ReadFailed, WriteFailed}
use Rattle.pw_cmd.specs.declared.refusal.Refusal.{Refusal}
use Rattle.pw_cmd.specs.declared.words.Request.{Request}
use Rattle.pw_cmd.specs.Answer.{Answer, message_line, status_of}
use Rattle.pw_cmd.specs.Answers.{Answers}
use Rattle.pw_cmd.specs.Ends.{HasStatusOfEnd}
use Rattle.pw_cmd.specs.Message.{unreported}
use Rattle.pw_cmd.specs.Primitives.{ending_of}
use Rattle.pw_cmd.specs.Words.{AsksForOne}
use Rattle.pw_cmd.specs.Shows.{AsksForText, IsRefused, Completes}
use Rattle.pw_cmd.proofs.Requests.{one_request}
use Rattle.pw_cmd.proofs.Began.{Ran, CameTo, no_command, no_memory, not_read, refused, ran, came_to}
use Rattle.pw_cmd.proofs.Failures.{no_failed_read, no_failed_write, said_well}
use Rattle.pw_cmd.proofs.MeantEnds.{answered, ends_as_meant, status_meant}
use Rattle.pw_cmd.proofs.OneRefusal.{some_same, not_refused}

-- ---- the file that the words ask for

module _ (words : List (List ℕ)) (files : Option Files) (request : Request) (text : List ℕ) (p : AsksForText words files request text)
    (other : Request) (asks : AsksForOne words other) where
  pub same_request : other ≡ request
  same_request = one_request words other request asks p.asks

  -- what was read is its text
  pub same_text : (found : List ℕ) → StandsIn files other.file found → found ≡ text
  same_text found stands =
      let named : StandsIn files request.file found = subst (λ r. StandsIn files r.file found) same_request stands in
      let there : p.at request.file ≡ Some found = subst (λ f. StandsIn f request.file found) p.reported named in
      some_same (sym there ∙ p.stands)

  -- what it is refused for is what the text is refused for
  pub same_refusal : (found : List ℕ) (why : Refusal) → StandsIn files other.file found → IsRefused other found why →
      IsRefused request text why
  same_refusal found why stands is =
      subst (λ t. IsRefused request t why) (same_text found stands) (subst (λ r. IsRefused r found why) same_request is)

-- ---- a run

module _ (words : List (List ℕ)) (old new : Outside) (status : ℕ) (answer : Answer) (r : Ran words old new answer)
    (bytes : ReportsBytes old.input) where
  -- the status is that of the end
  has_status : (ending : Ending) → ending_of r.began.rows r.ended ≡ Ok ending → status ≡ status_of answer →
      HasStatusOfEnd (unit_of r.began.unit) r.began.request.steps old.input status
  has_status ending is said =
      let b = r.began in
      let unit = unit_of b.unit in
      let m = ends_as_meant unit (keep_of b.rows) b.request.steps r.start (unreported old new) b.rows r.ended ending is
      (r.meant (subst (λ input. ReportsBytes input) (sym b.input) bytes)) in
      let end = (meaning_of unit m.input b.request.steps).end in
      record {
        input = m.input;
        is_left = subst (λ input. IsLeft m.input input) b.input m.takes.is_left;
        bytes = m.takes.bytes;
        status_is = said ∙ ap status_of (r.answer_is ∙ is) ∙ status_meant unit b.rows end r.ended ending m.ends is;
      }

-- ---- all

pub completes : (words : List (List ℕ)) (old new : Outside) (status : ℕ) → Answers words old new status → Completes words old new status
completes words old new status a request text unit p program bytes low none = by_way (came_to words old new a.answer a.performed) where
  Completed : Type 0
  Completed = HasStatusOfEnd (unit_of unit) request.steps old.input status ⊎ (status ≡ 8)

  said : status ≡ status_of a.answer
  said = (said_well words old new low none a.answer a.performed (message_line words a.answer) status a.reported).0

  by_end : (r : Ran words old new a.answer) →
      ((ending : Ending) × (ending_of r.began.rows r.ended ≡ Ok ending))
      ⊎ ((ending_of r.began.rows r.ended ≡ Err ReadFailed) ⊎ (ending_of r.began.rows r.ended ≡ Err WriteFailed)) → Completed
  by_end r (inl told) =
      let b = r.began in
      let same = same_request words old.store.files request text p b.request b.asks in
      let found = same_text words old.store.files request text p b.request b.asks b.text b.read.stands in
      let units : unit_of b.unit ≡ unit_of unit =
      one_typed_unit text b.unit unit (subst (λ t. IsTypedUnitOf t b.unit) found b.is_unit) program.has_unit.is_unit in
      let seen = has_status words old new status a.answer r bytes told.0 told.1 said in
      inl (subst (λ u. HasStatusOfEnd u request.steps old.input status) units
      (subst (λ q. HasStatusOfEnd (unit_of b.unit) q.steps old.input status) same seen))
  by_end r (inr (inl failed)) = absurd (no_failed_read words old new low none a.answer a.performed (r.answer_is ∙ failed))
  by_end r (inr (inr failed)) = absurd (no_failed_write words old new low none a.answer a.performed (r.answer_is ∙ failed))

  by_way : CameTo words old new a.answer → Completed
  by_way (ran r) = by_end r (answered r.began.rows r.ended)
  by_way (no_command c is) = absurd (c request p.asks)
  by_way (no_memory other asks is) = inr (said ∙ ap status_of is)
  by_way (not_read other asks left is) = absurd (no_failed_read words old new low none a.answer a.performed is)
  by_way (refused other found why asks stands for is) =
      absurd (not_refused request text unit why program (same_refusal words old.store.files request text p other asks found why stands for))
