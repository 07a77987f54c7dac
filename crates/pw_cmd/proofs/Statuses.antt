-- What a status tells of the answer: each status but 7 is that of one kind of answer, whose line was then said.
use Rattle.std.proofs.Common.{◌≡◌, ℕ, ◌≤◌, List, Bool, true, false, cond, ◌==◌, refl, sym, subst, arith, Ok, Err, inl, inr}
use Rattle.std.specs.Prelude.{◌⊎◌}
use Rattle.pw_io.specs.Faults.{Rises}
use Rattle.pw_io.specs.Sink.{SinkState, wrote, flushed_all}
use Rattle.pw_cmd.specs.declared.answer.Ending.{Ending}
use Rattle.pw_cmd.specs.declared.answer.Ending.TheVariants.{Ended, Faulted, Spent, Trapped, Limited}
use Rattle.pw_cmd.specs.declared.answer.Stop.{Stop}
use Rattle.pw_cmd.specs.declared.answer.Stop.TheVariants.{Usage, Refused, ReadFailed, WriteFailed, NoMemory}
use Rattle.pw_cmd.specs.declared.refusal.Refusal.{Refusal}
use Rattle.pw_cmd.specs.Answer.{Answer, status_of_value, status_of_ending, status_of}
use Rattle.pw_cmd.specs.Message.{Reports}

-- ---- the statuses of endings and of stops

-- the statuses that an ending has
abbrev pub IsOfEnding : ℕ → Type 0
IsOfEnding k = (k ≤ 1) ⊎ ((k ≡ 4) ⊎ ((k ≡ 5) ⊎ (k ≡ 9)))

-- the statuses that a stop has
abbrev pub IsOfStop : ℕ → Type 0
IsOfStop k = (k ≡ 2) ⊎ ((k ≡ 3) ⊎ ((6 ≤ k) × (k ≤ 8)))

pub value_status : (value : ℕ) → status_of_value value ≤ 1
value_status value = by_test (value == 0) where
  by_test : (t : Bool) → cond t 0 1 ≤ 1
  by_test true = omega arith
  by_test false = omega arith

ending_status : (ending : Ending) → IsOfEnding (status_of_ending ending)
ending_status (Ended value) = inl (value_status value)
ending_status (Faulted kind row line) = inr (inl refl)
ending_status Spent = inr (inr (inl refl))
ending_status (Limited limit) = inr (inr (inl refl))
ending_status (Trapped cause pc value) = inr (inr (inr refl))

stop_status : (stop : Stop) → IsOfStop (status_of (Err stop))
stop_status Usage = inl refl
stop_status (Refused why) = inr (inl refl)
stop_status ReadFailed = inr (inr (omega arith, omega arith))
stop_status WriteFailed = inr (inr (omega arith, omega arith))
stop_status NoMemory = inr (inr (omega arith, omega arith))

-- no status is of both
apart : (k : ℕ) → IsOfEnding k → IsOfStop k → ⊥
apart k (inl a) (inl b) = omega (arith, a, b)
apart k (inl a) (inr (inl b)) = omega (arith, a, b)
apart k (inl a) (inr (inr b)) = omega (arith, a, b.0)
apart k (inr (inl a)) (inl b) = omega (arith, a, b)
apart k (inr (inl a)) (inr (inl b)) = omega (arith, a, b)
apart k (inr (inl a)) (inr (inr b)) = omega (arith, a, b.0)
apart k (inr (inr (inl a))) (inl b) = omega (arith, a, b)
apart k (inr (inr (inl a))) (inr (inl b)) = omega (arith, a, b)
apart k (inr (inr (inl a))) (inr (inr b)) = omega (arith, a, b.0)
apart k (inr (inr (inr a))) (inl b) = omega (arith, a, b)
apart k (inr (inr (inr a))) (inr (inl b)) = omega (arith, a, b)
apart k (inr (inr (inr a))) (inr (inr b)) = omega (arith, a, b.1)

not_ending : (ending : Ending) (status : ℕ) → status ≡ status_of_ending ending → IsOfStop status → ⊥
not_ending ending status said = apart status (subst IsOfEnding (sym said) (ending_status ending))

-- ---- what a status tells

module _ (line : List ℕ) (old new : SinkState) (status : ℕ) where
  -- the line was said
  abbrev pub IsSaid : Type 0
  IsSaid = new ≡ flushed_all (wrote line old)

  pub told_ending : (answer : Answer) → Reports line (status_of answer) old new status → IsOfEnding status →
      (ending : Ending) × (answer ≡ Ok ending) × (status ≡ status_of_ending ending) × IsSaid
  told_ending (Ok ending) (inl said) is = (ending, refl, said.0, said.1)
  told_ending (Err stop) (inl said) is = absurd (apart status is (subst IsOfStop (sym said.0) (stop_status stop)))
  told_ending answer (inr broke) is = absurd (apart status is (inr (inr (omega (arith, broke.0), omega (arith, broke.0)))))

  pub told_usage : (answer : Answer) → Reports line (status_of answer) old new status → status ≡ 2 → (answer ≡ Err Usage) × IsSaid
  told_usage answer (inr broke) is = absurd (omega (arith, broke.0, is))
  told_usage (Ok ending) (inl said) is = absurd (not_ending ending status said.0 (inl is))
  told_usage (Err Usage) (inl said) is = (refl, said.1)
  told_usage (Err (Refused why)) (inl said) is = absurd (omega (arith, said.0, is))
  told_usage (Err ReadFailed) (inl said) is = absurd (omega (arith, said.0, is))
  told_usage (Err WriteFailed) (inl said) is = absurd (omega (arith, said.0, is))
  told_usage (Err NoMemory) (inl said) is = absurd (omega (arith, said.0, is))

  pub told_refusal : (answer : Answer) → Reports line (status_of answer) old new status → status ≡ 3 →
      (why : Refusal) × (answer ≡ Err (Refused why)) × IsSaid
  told_refusal answer (inr broke) is = absurd (omega (arith, broke.0, is))
  told_refusal (Ok ending) (inl said) is = absurd (not_ending ending status said.0 (inr (inl is)))
  told_refusal (Err Usage) (inl said) is = absurd (omega (arith, said.0, is))
  told_refusal (Err (Refused why)) (inl said) is = (why, refl, said.1)
  told_refusal (Err ReadFailed) (inl said) is = absurd (omega (arith, said.0, is))
  told_refusal (Err WriteFailed) (inl said) is = absurd (omega (arith, said.0, is))
  told_refusal (Err NoMemory) (inl said) is = absurd (omega (arith, said.0, is))

  pub told_read : (answer : Answer) → Reports line (status_of answer) old new status → status ≡ 6 → (answer ≡ Err ReadFailed) × IsSaid
  told_read answer (inr broke) is = absurd (omega (arith, broke.0, is))
  told_read (Ok ending) (inl said) is = absurd (not_ending ending status said.0 (inr (inr (omega (arith, is), omega (arith, is)))))
  told_read (Err Usage) (inl said) is = absurd (omega (arith, said.0, is))
  told_read (Err (Refused why)) (inl said) is = absurd (omega (arith, said.0, is))
  told_read (Err ReadFailed) (inl said) is = (refl, said.1)
  told_read (Err WriteFailed) (inl said) is = absurd (omega (arith, said.0, is))
  told_read (Err NoMemory) (inl said) is = absurd (omega (arith, said.0, is))

  pub told_write : (answer : Answer) → Reports line (status_of answer) old new status → status ≡ 7 →
      ((answer ≡ Err WriteFailed) × IsSaid) ⊎ Rises old.faults new.faults
  told_write answer (inr broke) is = inr broke.1.fails.faults
  told_write (Ok ending) (inl said) is = absurd (not_ending ending status said.0 (inr (inr (omega (arith, is), omega (arith, is)))))
  told_write (Err Usage) (inl said) is = absurd (omega (arith, said.0, is))
  told_write (Err (Refused why)) (inl said) is = absurd (omega (arith, said.0, is))
  told_write (Err ReadFailed) (inl said) is = absurd (omega (arith, said.0, is))
  told_write (Err WriteFailed) (inl said) is = inl (refl, said.1)
  told_write (Err NoMemory) (inl said) is = absurd (omega (arith, said.0, is))

  pub told_memory : (answer : Answer) → Reports line (status_of answer) old new status → status ≡ 8 → (answer ≡ Err NoMemory) × IsSaid
  told_memory answer (inr broke) is = absurd (omega (arith, broke.0, is))
  told_memory (Ok ending) (inl said) is = absurd (not_ending ending status said.0 (inr (inr (omega (arith, is), omega (arith, is)))))
  told_memory (Err Usage) (inl said) is = absurd (omega (arith, said.0, is))
  told_memory (Err (Refused why)) (inl said) is = absurd (omega (arith, said.0, is))
  told_memory (Err ReadFailed) (inl said) is = absurd (omega (arith, said.0, is))
  told_memory (Err WriteFailed) (inl said) is = absurd (omega (arith, said.0, is))
  told_memory (Err NoMemory) (inl said) is = (refl, said.1)
