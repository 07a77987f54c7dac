-- Stages over lists and options obey the laws that the stage of each item obeys.
use Rattle.std.proofs.Common.{◌≡◌, ℕ, ◌+◌, List, [], ◌∷◌, ◌++◌, Option, Some, None, Ok, Err, ap, sym, subst, append-nil, inl, inr}
use Rattle.std.specs.Prelude.{◌⊎◌}
use Rattle.pw_io.specs.declared.ports.Asked.{Asked}
use Rattle.pw_hart.specs.Outside.{Outside}
use Rattle.pw_cmd.specs.declared.answer.Stop.{Stop}
use Rattle.pw_cmd.specs.declared.answer.Stop.TheVariants.{NoMemory}
use Rattle.pw_cmd.specs.Stages.{Stage, gives, takes_memory, each, when}
use Rattle.pw_cmd.specs.Laws.{Law, stop_in, Obeys, FailuresStop, OnlyLooks, MakesCalls, calls_of_each}
use Rattle.pw_cmd.proofs.Composition.{obeys_then, calls_then, none_failed, failures_go_on, leaves_all, leaves_both, no_calls, makes_none}

-- ---- a law that holds where nothing changes

module _ (law : Law) (still : (old new : Outside) → new ≡ old → law old new None)
    (refused : (old new : Outside) → new ≡ old → law old new (Some NoMemory)) where
  obeys_gives : {A : Type 0} (value : A) → Obeys law (gives value)
  obeys_gives value old new result g = subst (λ r. law old new (stop_in r)) (sym g.0) (still old new g.1)

  obeys_takes : Obeys law takes_memory
  obeys_takes old new result g = by_answer g.0 where
    by_answer : (result ≡ Ok tt) ⊎ (result ≡ Err NoMemory) → law old new (stop_in result)
    by_answer (inl is) = subst (λ r. law old new (stop_in r)) (sym is) (still old new g.1)
    by_answer (inr is) = subst (λ r. law old new (stop_in r)) (sym is) (refused old new g.1)

  obeys_when : {A : Type 0} (stage : A → Stage (Unit {0})) → ((item : A) → Obeys law (stage item)) → (item : Option A) →
      Obeys law (when item stage)
  obeys_when stage obeys None = obeys_gives tt
  obeys_when stage obeys (Some item) = obeys item

  obeys_each : {A B : Type 0} (stage : ℕ → A → Stage B)
      → ((old mid new : Outside) (stop : Option Stop) → law old mid None → law mid new stop → law old new stop)
      → ((number : ℕ) (item : A) → Obeys law (stage number item)) → (number : ℕ) (items : List A) → Obeys law (each stage number items)
  obeys_each stage goes_on obeys number [] = obeys_gives []
  obeys_each stage goes_on obeys number (item ∷ items) =
      obeys_then law _ _ goes_on (obeys number item) (λ value.
      obeys_then law _ _ goes_on obeys_takes (λ _.
      obeys_then law _ _ goes_on (obeys_each stage goes_on obeys (number + 1) items) (λ values. obeys_gives (value ∷ values))))

-- ---- the laws

pub each_failures : {A B : Type 0} (stage : ℕ → A → Stage B) →
    ((number : ℕ) (item : A) → Obeys FailuresStop (stage number item)) → (number : ℕ) (items : List A) →
    Obeys FailuresStop (each stage number items)
each_failures stage obeys = obeys_each FailuresStop none_failed none_failed stage failures_go_on obeys

pub when_failures : {A : Type 0} (stage : A → Stage (Unit {0})) → ((item : A) → Obeys FailuresStop (stage item)) →
    (item : Option A) → Obeys FailuresStop (when item stage)
when_failures stage obeys = obeys_when FailuresStop none_failed none_failed stage obeys

pub each_looks : {A B : Type 0} (stage : ℕ → A → Stage B) →
    ((number : ℕ) (item : A) → Obeys OnlyLooks (stage number item)) → (number : ℕ) (items : List A) →
    Obeys OnlyLooks (each stage number items)
each_looks stage obeys = obeys_each OnlyLooks leaves_all leaves_all stage (λ old mid new stop a b. leaves_both old mid new a b) obeys

quiet : (old new : Outside) → new ≡ old → MakesCalls [] old new None
quiet old new same = no_calls old.store new.store (ap (λ o. o.store.calls) same)

quiet_stop : (old new : Outside) → new ≡ old → MakesCalls [] old new (Some NoMemory)
quiet_stop old new same = makes_none [] old.store new.store (ap (λ o. o.store.calls) same)

pub each_calls : {A B : Type 0} (stage : ℕ → A → Stage B) (order : A → List Asked) →
    ((number : ℕ) (item : A) → Obeys (MakesCalls (order item)) (stage number item))
    → (number : ℕ) (items : List A) → Obeys (MakesCalls (calls_of_each order items)) (each stage number items)
each_calls stage order obeys number [] = obeys_gives (MakesCalls []) quiet quiet_stop []
each_calls stage order obeys number (item ∷ items) =
    let rest : List Asked = calls_of_each order items in
    subst (λ calls. Obeys (MakesCalls (order item ++ calls)) (each stage number (item ∷ items))) (append-nil rest)
    (calls_then (order item) (rest ++ []) _ _ (obeys number item) (λ value.
    calls_then [] (rest ++ []) _ _ (obeys_takes (MakesCalls []) quiet quiet_stop) (λ _.
    calls_then rest [] _ _ (each_calls stage order obeys (number + 1) items) (λ values.
    obeys_gives (MakesCalls []) quiet quiet_stop (value ∷ values)))))
