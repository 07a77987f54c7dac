-- The calls that are made on the store.
use Rattle.std.proofs.Common.{◌≡◌, ℕ, List, [], ◌∷◌, Option, Some, None, ap, sym, subst, append-nil}
use Rattle.pw_io.specs.declared.ports.Asked.{Asked}
use Rattle.pw_io.specs.declared.ports.Asked.TheVariants.{Read}
use Rattle.pw_hart.specs.Outside.{Outside}
use Rattle.pw_cmd.specs.declared.answer.Stop.{Stop}
use Rattle.pw_cmd.specs.declared.words.Request.{Request}
use Rattle.pw_cmd.specs.Answer.{Answer}
use Rattle.pw_cmd.specs.Answers.{Answers}
use Rattle.pw_cmd.specs.Message.{unreported}
use Rattle.pw_cmd.specs.Words.{AsksForOne}
use Rattle.pw_cmd.specs.Stages.{stopped, went_on}
use Rattle.pw_cmd.specs.Commands.{performs}
use Rattle.pw_cmd.specs.Laws.{stop_in, MakesFirst, MakesCalls}
use Rattle.pw_cmd.specs.Shows.{CallsInOrder}
use Rattle.pw_cmd.proofs.Composition.{makes_none}
use Rattle.pw_cmd.proofs.CommandLaws.{one_calls}
use Rattle.pw_cmd.proofs.Inversion.{call_gave, call_failed}
use Rattle.pw_cmd.proofs.Requests.{one_request}

first_calls : (order : List Asked) (old new : Outside) (stop : Option Stop) → MakesCalls order old new stop →
    MakesFirst order old.store new.store
first_calls order old new None calls = record { made = order; rest = []; whole = sym (append-nil order); calls = calls }
first_calls order old new (Some why) calls = calls

-- the words ask for a file, and it is read, or the command stopped before
asked_of : (words : List (List ℕ)) (old new : Outside) (answer : Answer) → performs words old new answer →
    (request : Request) → AsksForOne words request → MakesFirst (Read request.file ∷ []) old.store new.store
asked_of words old new answer (stopped why s is) request asks =
    makes_none (Read request.file ∷ []) old.store new.store (ap (λ o. o.store.calls) (call_failed s).1.1)
asked_of words old new answer (went_on other mid s t) request asks =
    let judged = call_gave s in
    let made = first_calls (Read other.file ∷ []) mid new (stop_in answer) (one_calls other mid new answer t) in
    subst (λ (r : Request). MakesFirst (Read r.file ∷ []) old.store new.store) (one_request words other request judged.0 asks)
    (subst (λ (o : Outside). MakesFirst (Read other.file ∷ []) o.store new.store) judged.1 made)

-- the words ask for none
none_of : (words : List (List ℕ)) (old new : Outside) (answer : Answer) → performs words old new answer →
    ((request : Request) → ¬ AsksForOne words request) → new.store.calls ≡ old.store.calls
none_of words old new answer (stopped why s is) none = ap (λ o. o.store.calls) (call_failed s).1.1
none_of words old new answer (went_on request mid s t) none = absurd (none request (call_gave s).0)

pub calls : (words : List (List ℕ)) (old new : Outside) (status : ℕ) → Answers words old new status → CallsInOrder words old new
calls words old new status a = record {
  asked = asked_of words old (unreported old new) a.answer a.performed;
  none = none_of words old (unreported old new) a.answer a.performed;
}
