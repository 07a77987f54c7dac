-- Stages of a command: what each may answer between two states of the outside, and how one follows another.
use Rattle.std.specs.Prelude.{◌≡◌, ℕ, ◌+◌, ◌⊎◌, List, [], ◌∷◌, Option, Some, None, Result, Ok, Err}
use Rattle.pw_hart.specs.Outside.{Outside}
use Rattle.pw_cmd.specs.declared.answer.Stop.{Stop}
use Rattle.pw_cmd.specs.declared.answer.Stop.TheVariants.{NoMemory}

-- a stage: it answers a value, or why the command stops, and leaves something of the outside
abbrev pub Stage : Type 0 → Type 1
Stage A = Outside → Outside → Result A Stop → Type 0

-- One stage and then the next, which is given its value. Where the first stops, the command stops there for its reason.
pub data Then {A B : Type 0} (first : Stage A) (next : A → Stage B) (old new : Outside) (result : Result B Stop) : Type 0 where
  stopped : (why : Stop) → first old new (Err why) → result ≡ Err why → Then first next old new result
  went_on : (value : A) (mid : Outside) → first old mid (Ok value) → next value mid new result → Then first next old new result

-- a line of a command: its value gets a name, and the next lines are given it
infixr 10 ◌>>=◌
abbrev pub ◌>>=◌ : {A B : Type 0} → Stage A → (A → Stage B) → Stage B
◌>>=◌ first next = Then first next

-- a line whose value nobody needs
infixr 10 ◌>>◌
abbrev pub ◌>>◌ : {A B : Type 0} → Stage A → Stage B → Stage B
◌>>◌ first next = Then first (λ _. next)

-- A call of the layer below as a stage. It answers and leaves what its contract says: a value, or an error, which stops the
-- command for the reason that is given.
pub data CallsBelow {A E : Type 0} (says : Outside → Outside → Result A E → Type 0) (reason : E → Stop)
    (old new : Outside) (result : Result A Stop) : Type 0 where
  gave : (value : A) → says old new (Ok value) → result ≡ Ok value → CallsBelow says reason old new result
  failed : (error : E) → says old new (Err error) → result ≡ Err (reason error) → CallsBelow says reason old new result

-- a value, and nothing changes
abbrev pub gives : {A : Type 0} → A → Stage A
gives value old new result = (result ≡ Ok value) × (new ≡ old)

-- memory is taken, or it is refused, and nothing changes
abbrev pub takes_memory : Stage (Unit {0})
takes_memory old new result = ((result ≡ Ok tt) ⊎ (result ≡ Err NoMemory)) × (new ≡ old)

-- a stage for each item of a list, numbered from `number` on, one after another: the values in order
abbrev pub each : {A B : Type 0} → (ℕ → A → Stage B) → ℕ → List A → Stage (List B)
each stage number [] = gives []
each stage number (item ∷ items) = do
  value ← stage number item
  takes_memory
  values ← each stage (number + 1) items
  gives (value ∷ values)

-- a stage that is done only where there is something to do it for
abbrev pub when : {A : Type 0} → Option A → (A → Stage (Unit {0})) → Stage (Unit {0})
when None stage = gives tt
when (Some item) stage = stage item
