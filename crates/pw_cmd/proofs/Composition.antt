-- A command obeys the laws that its stages obey: each law is proved once for one stage after another, and once for each
-- stage that commands are made of.
use Rattle.std.proofs.Common.{◌≡◌, List, [], ◌++◌, Option, Some, None, Result, Ok, Err, refl, ap, sym, subst, ◌∙◌, append_assoc, inl, inr}
use Rattle.std.specs.Prelude.{◌⊎◌}
use Rattle.pw_io.specs.declared.ports.Asked.{Asked}
use Rattle.pw_io.specs.Faults.{Rises}
use Rattle.pw_io.specs.Store.{StoreState, called_all}
use Rattle.pw_io.proofs.Stores.{called_all_none, called_all-called_all}
use Rattle.pw_hart.specs.Outside.{Outside}
use Rattle.pw_cmd.specs.declared.answer.Stop.{Stop}
use Rattle.pw_cmd.specs.declared.answer.Stop.TheVariants.{Usage, Refused, ReadFailed, WriteFailed, NoMemory}
use Rattle.pw_cmd.specs.Stages.{Stage, Then, stopped, went_on, CallsBelow, gave, failed}
use Rattle.pw_cmd.specs.Laws.{Law, stop_in, Obeys, NoneFailed, FailuresStop, LeavesAll, OnlyLooks, NeverRefuses, IsRefusal, RefusesCleanly, MakesFirst, MakesCalls}

-- ---- one stage after another

-- where each law holds of its part, and the two give a third, that holds of the whole
pub obeys_both : {A B : Type 0} (first_law second_law law : Law) (first : Stage A) (next : A → Stage B)
    → ((old new : Outside) (why : Stop) → first_law old new (Some why) → law old new (Some why))
    → ((old mid new : Outside) (stop : Option Stop) → first_law old mid None → second_law mid new stop → law old new stop)
    → Obeys first_law first → ((value : A) → Obeys second_law (next value)) → Obeys law (Then first next)
obeys_both first_law second_law law first next stops goes_on f n old new result (stopped why s is) =
    subst (λ r. law old new (stop_in r)) (sym is) (stops old new why (f old new (Err why) s))
obeys_both first_law second_law law first next stops goes_on f n old new result (went_on value mid s t) =
    goes_on old mid new (stop_in result) (f old mid (Ok value) s) (n value mid new result t)

-- the same for one law
pub obeys_then : {A B : Type 0} (law : Law) (first : Stage A) (next : A → Stage B)
    → ((old mid new : Outside) (stop : Option Stop) → law old mid None → law mid new stop → law old new stop)
    → Obeys law first → ((value : A) → Obeys law (next value)) → Obeys law (Then first next)
obeys_then law first next goes_on f n = obeys_both law law law first next (λ old new why h. h) goes_on f n

-- a call of a layer obeys a law that its contract shows, for a value and for each error
pub obeys_calls : {A E : Type 0} (law : Law) (says : Outside → Outside → Result A E → Type 0) (reason : E → Stop)
    → ((old new : Outside) (value : A) → says old new (Ok value) → law old new None)
    → ((old new : Outside) (error : E) → says old new (Err error) → law old new (Some (reason error)))
    → Obeys law (CallsBelow says reason)
obeys_calls law says reason given fails old new result (gave value s is) =
    subst (λ r. law old new (stop_in r)) (sym is) (given old new value s)
obeys_calls law says reason given fails old new result (failed error s is) =
    subst (λ r. law old new (stop_in r)) (sym is) (fails old new error s)

-- ---- failures

pub none_failed : (old new : Outside) → new ≡ old → NoneFailed old new
none_failed old new same = record {
  store = ap (λ o. o.store.faults) same;
  input = ap (λ o. o.input.faults) same;
  out = ap (λ o. o.out.faults) same;
  messages = ap (λ o. o.messages.faults) same;
}

none_failed_twice : (old mid new : Outside) → NoneFailed old mid → NoneFailed mid new → NoneFailed old new
none_failed_twice old mid new a b = record {
  store = b.store ∙ a.store;
  input = b.input ∙ a.input;
  out = b.out ∙ a.out;
  messages = b.messages ∙ a.messages;
}

-- where none failed first, what is known of the counts after it is known from before it
pub failures_go_on : (old mid new : Outside) (stop : Option Stop) → FailuresStop old mid None → FailuresStop mid new stop →
    FailuresStop old new stop
failures_go_on old mid new None a b = none_failed_twice old mid new a b
failures_go_on old mid new (Some Usage) a b = none_failed_twice old mid new a b
failures_go_on old mid new (Some (Refused why)) a b = none_failed_twice old mid new a b
failures_go_on old mid new (Some NoMemory) a b = none_failed_twice old mid new a b
failures_go_on old mid new (Some ReadFailed) a f = record {
  failed = by_call f.failed;
  out = f.out ∙ a.out;
  messages = f.messages ∙ a.messages;
}
  where
    by_call : (Rises mid.store.faults new.store.faults × (new.input.faults ≡ mid.input.faults))
        ⊎ ((new.store.faults ≡ mid.store.faults) × Rises mid.input.faults new.input.faults)
        → (Rises old.store.faults new.store.faults × (new.input.faults ≡ old.input.faults))
        ⊎ ((new.store.faults ≡ old.store.faults) × Rises old.input.faults new.input.faults)
    by_call (inl rose) = inl (subst (λ k. Rises k new.store.faults) a.store rose.0, rose.1 ∙ a.input)
    by_call (inr rose) = inr (rose.0 ∙ a.store, subst (λ k. Rises k new.input.faults) a.input rose.1)
failures_go_on old mid new (Some WriteFailed) a f = record {
  out = subst (λ k. Rises k new.out.faults) a.out f.out;
  store = f.store ∙ a.store;
  input = f.input ∙ a.input;
  messages = f.messages ∙ a.messages;
}

pub failures_then : {A B : Type 0} (first : Stage A) (next : A → Stage B)
    → Obeys FailuresStop first → ((value : A) → Obeys FailuresStop (next value)) → Obeys FailuresStop (Then first next)
failures_then first next f n = obeys_then FailuresStop first next failures_go_on f n

-- ---- refusals

pub leaves_all : (old new : Outside) → new ≡ old → LeavesAll old new
leaves_all old new same = record {
  files = ap (λ o. o.store.files) same;
  input = ap (λ o. o.input) same;
  out = ap (λ o. o.out) same;
  memory = ap (λ o. o.memory) same;
}

pub leaves_both : (old mid new : Outside) → LeavesAll old mid → LeavesAll mid new → LeavesAll old new
leaves_both old mid new a b = record {
  files = b.files ∙ a.files;
  input = b.input ∙ a.input;
  out = b.out ∙ a.out;
  memory = b.memory ∙ a.memory;
}

-- a stage that only looks refuses cleanly
looks_cleanly : (old new : Outside) (stop : Option Stop) → LeavesAll old new → RefusesCleanly old new stop
looks_cleanly old new None l = tt
looks_cleanly old new (Some Usage) l = l
looks_cleanly old new (Some (Refused why)) l = l
looks_cleanly old new (Some NoMemory) l = l
looks_cleanly old new (Some ReadFailed) l = tt
looks_cleanly old new (Some WriteFailed) l = tt

-- and so does one that refuses cleanly after it
cleanly_after : (old mid new : Outside) (stop : Option Stop) → LeavesAll old mid → RefusesCleanly mid new stop → RefusesCleanly old new stop
cleanly_after old mid new None l r = tt
cleanly_after old mid new (Some Usage) l r = leaves_both old mid new l r
cleanly_after old mid new (Some (Refused why)) l r = leaves_both old mid new l r
cleanly_after old mid new (Some NoMemory) l r = leaves_both old mid new l r
cleanly_after old mid new (Some ReadFailed) l r = tt
cleanly_after old mid new (Some WriteFailed) l r = tt

pub cleanly_then : {A B : Type 0} (first : Stage A) (next : A → Stage B)
    → Obeys OnlyLooks first → ((value : A) → Obeys RefusesCleanly (next value)) → Obeys RefusesCleanly (Then first next)
cleanly_then first next f n =
    obeys_both OnlyLooks RefusesCleanly RefusesCleanly first next (λ old new why l. looks_cleanly old new (Some why) l) cleanly_after f n

-- a stage that never refuses, after one that refuses cleanly
never_refuses : (old mid new : Outside) (stop : Option Stop) → NeverRefuses mid new stop → RefusesCleanly old new stop
never_refuses old mid new None r = tt
never_refuses old mid new (Some Usage) r = absurd r
never_refuses old mid new (Some (Refused why)) r = absurd r
never_refuses old mid new (Some NoMemory) r = absurd r
never_refuses old mid new (Some ReadFailed) r = tt
never_refuses old mid new (Some WriteFailed) r = tt

pub cleanly_at_last : {A B : Type 0} (first : Stage A) (next : A → Stage B)
    → Obeys RefusesCleanly first → ((value : A) → Obeys NeverRefuses (next value)) → Obeys RefusesCleanly (Then first next)
cleanly_at_last first next f n =
    obeys_both RefusesCleanly NeverRefuses RefusesCleanly first next (λ old new why r. r)
    (λ old mid new stop c r. never_refuses old mid new stop r) f n

-- ---- calls of the store

pub no_calls : (old new : StoreState) → new.calls ≡ old.calls → new.calls ≡ (called_all [] old).calls
no_calls old new same = same ∙ sym (ap (λ s. s.calls) (called_all_none old))

pub makes_none : (order : List Asked) (old new : StoreState) → new.calls ≡ old.calls → MakesFirst order old new
makes_none order old new same = record { made = []; rest = order; whole = refl; calls = no_calls old new same }

-- the calls of one order after those of another
calls_after : (first second : List Asked) (old mid new : StoreState)
    → mid.calls ≡ (called_all first old).calls → new.calls ≡ (called_all second mid).calls
    → new.calls ≡ (called_all (first ++ second) old).calls
calls_after first second old mid new a b =
    b ∙ ap (λ calls. (called_all second (record old { calls = calls })).calls) a
    ∙ ap (λ s. s.calls) (called_all-called_all first second old)

-- the first calls of both orders, where the first one stops
first_stops : (first second : List Asked) (old new : StoreState) → MakesFirst first old new → MakesFirst (first ++ second) old new
first_stops first second old new m = record {
  made = m.made;
  rest = m.rest ++ second;
  whole = ap (λ calls. calls ++ second) m.whole ∙ append_assoc m.made m.rest second;
  calls = m.calls;
}

-- and where the second one does
second_stops : (first second : List Asked) (old mid new : StoreState)
    → mid.calls ≡ (called_all first old).calls → MakesFirst second mid new → MakesFirst (first ++ second) old new
second_stops first second old mid new a m = record {
  made = first ++ m.made;
  rest = m.rest;
  whole = ap (λ calls. first ++ calls) m.whole ∙ sym (append_assoc first m.made m.rest);
  calls = calls_after first m.made old mid new a m.calls;
}

both_call : (first second : List Asked) (old mid new : Outside) (stop : Option Stop) → MakesCalls first old mid None →
    MakesCalls second mid new stop → MakesCalls (first ++ second) old new stop
both_call first second old mid new None a b = calls_after first second old.store mid.store new.store a b
both_call first second old mid new (Some why) a b = second_stops first second old.store mid.store new.store a b

pub calls_then : {A B : Type 0} (first_order second_order : List Asked) (first : Stage A) (next : A → Stage B)
    → Obeys (MakesCalls first_order) first → ((value : A) → Obeys (MakesCalls second_order) (next value))
    → Obeys (MakesCalls (first_order ++ second_order)) (Then first next)
calls_then first_order second_order first next f n =
    obeys_both (MakesCalls first_order) (MakesCalls second_order) (MakesCalls (first_order ++ second_order)) first next
    (λ old new why m. first_stops first_order second_order old.store new.store m) (both_call first_order second_order) f n

-- ---- a stage that leaves the outside as it is, and stops for no failed call

pub record Stays {A E : Type 0} (says : Outside → Outside → Result A E → Type 0) (reason : E → Stop) : Type 0 where
  pub given : (old new : Outside) (value : A) → says old new (Ok value) → new ≡ old
  pub fails : (old new : Outside) (error : E) → says old new (Err error) → new ≡ old
  pub refuses : (error : E) → IsRefusal (reason error)

refusal_counts : (old new : Outside) (why : Stop) → IsRefusal why → NoneFailed old new → FailuresStop old new (Some why)
refusal_counts old new Usage is none = none
refusal_counts old new (Refused why) is none = none
refusal_counts old new NoMemory is none = none
refusal_counts old new ReadFailed is none = absurd is
refusal_counts old new WriteFailed is none = absurd is

module _ {A E : Type 0} (says : Outside → Outside → Result A E → Type 0) (reason : E → Stop) (stays : Stays says reason) where
  pub stays_failures : Obeys FailuresStop (CallsBelow says reason)
  stays_failures =
      obeys_calls FailuresStop says reason (λ old new value s. none_failed old new (stays.given old new value s))
      (λ old new error s. refusal_counts old new (reason error) (stays.refuses error) (none_failed old new (stays.fails old new error s)))

  pub stays_looks : Obeys OnlyLooks (CallsBelow says reason)
  stays_looks =
      obeys_calls OnlyLooks says reason (λ old new value s. leaves_all old new (stays.given old new value s))
      (λ old new error s. leaves_all old new (stays.fails old new error s))

  pub stays_calls : Obeys (MakesCalls []) (CallsBelow says reason)
  stays_calls =
      obeys_calls (MakesCalls []) says reason
      (λ old new value s. no_calls old.store new.store (ap (λ o. o.store.calls) (stays.given old new value s)))
      (λ old new error s. makes_none [] old.store new.store (ap (λ o. o.store.calls) (stays.fails old new error s)))
