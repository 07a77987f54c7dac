-- What the words came to: the run of an image, how it began and ended; or why the command stopped before any.
use Rattle.std.proofs.Common.{◌≡◌, ◌+◌, ◌<◌, ℕ, List, length, replicate, Option, Some, None, Err, refl, ap, sym, subst, ◌∙◌, arith}
use Rattle.std.specs.Prelude.{IsSomeAnd}
use Rattle.std.proofs.lemmas.List.{length-replicate}
use Rattle.pw_base.specs.Limits.{source_bytes}
use Rattle.pw_tree.specs.declared.tunit.TUnit.{TUnit}
use Rattle.pw_tree.specs.Units.{unit_of}
use Rattle.pw_front.specs.Units.{IsTypedUnitOf}
use Rattle.pw_io.specs.declared.errors.ReadError.TheVariants as stores
use Rattle.pw_io.specs.Store.{Files, StandsIn, PassesLimit}
use Rattle.pw_hart.specs.Outside.{Outside}
use Rattle.pw_image.specs.Rows.{keep_of}
use Rattle.pw_build.specs.declared.image_error.ImageError.{ImageError}
use Rattle.pw_build.specs.declared.image_error.ImageError.TheVariants as images
use Rattle.pw_build.specs.declared.run.Ended.{Ended}
use Rattle.pw_build.specs.Built.{Builds}
use Rattle.pw_build.specs.Meant.{ReportsBytes, IsMeant}
use Rattle.pw_cmd.specs.declared.fault.FrontFault.{FrontFault}
use Rattle.pw_cmd.specs.declared.answer.Stop.TheVariants.{Usage, Refused, ReadFailed, NoMemory}
use Rattle.pw_cmd.specs.declared.refusal.FileFault.TheVariants.{TooLong, Source}
use Rattle.pw_cmd.specs.declared.refusal.Refusal.{Refusal}
use Rattle.pw_cmd.specs.declared.refusal.Refusal.TheVariants.{File, Link, Unbound}
use Rattle.pw_cmd.specs.declared.words.CommandError.{CommandError}
use Rattle.pw_cmd.specs.declared.words.CommandError.TheVariants as errors
use Rattle.pw_cmd.specs.declared.words.Request.{Request}
use Rattle.pw_cmd.specs.Answer.{Answer}
use Rattle.pw_cmd.specs.Faults.{fault_of}
use Rattle.pw_cmd.specs.Message.{unreported}
use Rattle.pw_cmd.specs.Words.{ReadsCommand, AsksForOne}
use Rattle.pw_cmd.specs.Stages.{Then, stopped, went_on}
use Rattle.pw_cmd.specs.Primitives.{stop_of_words, ReadsFile, stop_of_read, compiles, stop_of_fault, builds, stop_of_image, ending_of, runs_image}
use Rattle.pw_cmd.specs.Commands.{one, performs}
use Rattle.pw_cmd.specs.Laws.{LeavesAll}
use Rattle.pw_cmd.specs.Shows.{HasRead, Began, HasUnit, IsRefused}
use Rattle.pw_cmd.proofs.RunLaws.{run_keeps_files}
use Rattle.pw_cmd.proofs.Inversion.{call_gave, call_failed}

-- A run began and ended, as the source means where the input reports bytes; the answer is that of its end.
pub record Ran (words : List (List ℕ)) (old new : Outside) (answer : Answer) : Type 0 where
  pub start : Outside
  pub began : Began words old new start
  pub ended : Ended
  pub meant : ReportsBytes start.input →
      IsMeant (unit_of began.unit) (keep_of began.rows) began.request.steps start (unreported old new) ended
  pub answer_is : answer ≡ ending_of began.rows ended

-- What the words came to, with the answer.
pub data CameTo (words : List (List ℕ)) (old new : Outside) (answer : Answer) : Type 0 where
  no_command : ((request : Request) → ¬ AsksForOne words request) → answer ≡ Err Usage → CameTo words old new answer
  no_memory : (request : Request) → AsksForOne words request → answer ≡ Err NoMemory → CameTo words old new answer
  not_read : (request : Request) → AsksForOne words request → LeavesAll old new → answer ≡ Err ReadFailed → CameTo words old new answer
  refused : (request : Request) (text : List ℕ) (refusal : Refusal) → AsksForOne words request →
      StandsIn old.store.files request.file text → IsRefused request text refusal → answer ≡ Err (Refused refusal) →
      CameTo words old new answer
  ran : Ran words old new answer → CameTo words old new answer

-- ---- a file that is too long

-- a file with more bytes has a text with more bytes; where files are not reported, that is any such text
long_text : (files : Option Files) (name : List ℕ) (limit : ℕ) → PassesLimit files name limit →
    (text : List ℕ) × StandsIn files name text × (limit < length text)
long_text None name limit passes = (replicate (limit + 1) 0, tt, omega (arith, length-replicate {A = ℕ} (limit + 1) 0))
long_text (Some at) name limit passes = by_file (at name) refl passes where
  by_file : (file : Option (List ℕ)) → at name ≡ file → IsSomeAnd file (λ bytes. limit < length bytes) →
      (text : List ℕ) × (at name ≡ Some text) × (limit < length text)
  by_file None is there = absurd there
  by_file (Some text) is there = (text, is, there)

-- ---- the stages of one file

module _ (words : List (List ℕ)) (old new : Outside) (answer : Answer) (request : Request) (asks : AsksForOne words request) where
  -- the image
  came_to_image : (text : List ℕ) (unit : TUnit) (mid : Outside) → HasRead request.file text old.store mid.store →
      mid ≡ record old { store = mid.store } → IsTypedUnitOf text unit →
      Then (builds request.file (unit_of unit)) (λ rows. runs_image (unit_of unit) rows request.steps) mid (unreported old new) answer →
      CameTo words old new answer
  came_to_image text unit mid read rest is_unit (went_on rows start s t) =
      let built = call_gave s in
      let store : new.store ≡ mid.store =
      run_keeps_files (unit_of unit) rows request.steps start (unreported old new) answer t ∙ ap (λ o. o.store) built.1 in
      ran (record {
        start = start;
        began = record {
          request = request;
          asks = asks;
          text = text;
          read = record { calls = store ∙ read.calls; short = read.short; stands = read.stands };
          unit = unit;
          is_unit = is_unit;
          rows = rows;
          built = built.0;
          input = ap (λ o. o.input) built.1 ∙ ap (λ o. o.input) rest;
          out = ap (λ o. o.out) built.1 ∙ ap (λ o. o.out) rest;
        };
        ended = t.ended;
        meant = t.meant;
        answer_is = t.result_is;
      })
  came_to_image text unit mid read rest is_unit (stopped why s is) = let f = call_failed s in by_error f.0 f.1.0 (is ∙ ap Err f.2) where
    has_unit : HasUnit text unit
    has_unit = record { short = read.short; is_unit = is_unit }

    by_error : (error : ImageError) → Builds request.file (unit_of unit) mid.memory new.memory (Err error) →
        answer ≡ Err (stop_of_image error) → CameTo words old new answer
    by_error (images.Link fault) b is = refused request text (Link fault) asks read.stands (unit, has_unit, b.0) is
    by_error (images.Unbound name) b is = refused request text (Unbound name) asks read.stands (unit, has_unit, b.0, b.1) is
    by_error images.NoMemory b is = no_memory request asks is

  -- the unit
  came_to_unit : (text : List ℕ) (mid : Outside) → HasRead request.file text old.store mid.store → mid ≡ record old { store = mid.store } →
      Then (compiles request.word text)
      (λ unit. Then (builds request.file (unit_of unit)) (λ rows. runs_image (unit_of unit) rows request.steps))
      mid (unreported old new) answer → CameTo words old new answer
  came_to_unit text mid read rest (went_on unit looked s t) =
      let compiled = call_gave s in
      came_to_image text unit looked (subst (λ o. HasRead request.file text old.store o.store) (sym compiled.1) read)
      (subst (λ o. o ≡ record old { store = o.store }) (sym compiled.1) rest) compiled.0 t
  came_to_unit text mid read rest (stopped why s is) =
      let f = call_failed s in by_fault (fault_of f.0) refl (is ∙ ap Err f.2) where
        by_fault : (fault : Option FrontFault) → fault_of (call_failed s).0 ≡ fault → answer ≡ Err (stop_of_fault request.word fault) →
            CameTo words old new answer
        by_fault (Some fault) known is =
            refused request text (File request.word (Source fault)) asks read.stands
            (refl, read.short, ((call_failed s).0, (call_failed s).1.0, known)) is
        by_fault None known is = no_memory request asks is

  -- the file
  came_to_one : one request old (unreported old new) answer → CameTo words old new answer
  came_to_one (went_on text mid s t) =
      let read = call_gave s in
      came_to_unit text.items mid (record { calls = read.0.0; short = read.0.1; stands = read.0.2 }) read.1 t
  came_to_one (stopped why s is) = let f = call_failed s in by_error f.0 f.1 (is ∙ ap Err f.2) where
    by_error : (error : _) → ReadsFile request.file old (unreported old new) (Err error) → answer ≡ Err (stop_of_read request.word error) →
        CameTo words old new answer
    by_error stores.Failed r is =
        not_read request asks
        (record { files = r.0.files; input = ap (λ o. o.input) r.1; out = ap (λ o. o.out) r.1; memory = ap (λ o. o.memory) r.1 }) is
    by_error (stores.TooLong limit) r is =
        let found = long_text old.store.files request.file source_bytes r.0.2 in
        refused request found.0 (File request.word (TooLong limit)) asks found.1 (refl, r.0.1, found.2) is
    by_error stores.NoMemory r is = no_memory request asks is

-- ---- the words

pub came_to : (words : List (List ℕ)) (old new : Outside) (answer : Answer) → performs words old (unreported old new) answer →
    CameTo words old new answer
came_to words old new answer (went_on request mid s t) =
    let judged = call_gave s in
    came_to_one words old new answer request judged.0 (subst (λ o. one request o (unreported old new) answer) judged.1 t)
came_to words old new answer (stopped why s is) = let f = call_failed s in by_error f.0 f.1.0 (is ∙ ap Err f.2) where
  by_error : (error : CommandError) → ReadsCommand words (Err error) → answer ≡ Err (stop_of_words error) → CameTo words old new answer
  by_error errors.NoCommand c is = no_command c is
  by_error errors.NoMemory c is = no_memory c.0 c.1 is
