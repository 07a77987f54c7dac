-- What `least` answers, and how a loop that counts up finds it.
use Rattle.std.proofs.Common.{◌≡◌, ℕ, zero, suc, ◌+◌, ◌-◌, ◌<◌, ◌≤◌, Bool, true, false, cond, Option, Some, None, refl, sym, ap, ◌∙◌, arith, inl, inr}
use Rattle.std.proofs.lemmas.Bool.{cases_eq}
use Rattle.pw_base.specs.Least.{least, IsLeast}

least_step : (test : ℕ → Bool) (start count found : ℕ) (b : Bool) → test start ≡ b →
    ((found' : ℕ) → least test (suc start) count ≡ Some found' → IsLeast test (suc start) (suc start + count) found')
    → cond b (Some start) (least test (suc start) count) ≡ Some found → IsLeast test start (start + suc count) found
least_step test start count found true holds later e =
    let same : start ≡ found = cc in
    record { from = omega arith; within = omega arith; holds = rw (← same) holds; first = λ k low high. absurd (omega arith) }
least_step test start count found false fails later e =
    let found_later = later found e in
    record {
      from = omega arith;
      within = omega arith;
      holds = found_later.holds;
      first = λ k low high. elim (cases_eq start k) [ inl same ↦ rw (← same) fails | inr other ↦ found_later.first k (omega arith) high ];
    }

-- what is answered is the least
pub least_is : (test : ℕ → Bool) (start count found : ℕ) → least test start count ≡ Some found → IsLeast test start (start + count) found
unfolding least
least_is test start zero found e = absurd cc
least_is test start (suc count) found e = least_step test start count found (test start) refl (least_is test (suc start) count) e

none_step : (test : ℕ → Bool) (start count : ℕ) (b : Bool) → test start ≡ b →
    (least test (suc start) count ≡ None → (k : ℕ) → suc start ≤ k → k < suc start + count → test k ≡ false)
    → cond b (Some start) (least test (suc start) count) ≡ None → (k : ℕ) → start ≤ k → k < start + suc count → test k ≡ false
none_step test start count true holds later e k low high = absurd cc
none_step test start count false fails later e k low high = elim (cases_eq start k) [ inl same ↦ rw (← same) fails | inr other ↦ later e k (omega arith) (omega arith) ]

-- where none is, the test holds nowhere
pub none_from : (test : ℕ → Bool) (start count : ℕ) → least test start count ≡ None → (k : ℕ) → start ≤ k → k < start + count → test k ≡ false
unfolding least
none_from test start zero e k low high = absurd (omega arith)
none_from test start (suc count) e k low high = none_step test start count (test start) refl (none_from test (suc start) count) e k low high

-- for a loop from `start` up to `end`: past a number at which the test fails, the answer is that of the rest
pub least_more : (test : ℕ → Bool) (i end : ℕ) (answer : Option ℕ) → i < end → test i ≡ false →
    answer ≡ least test i (end - i) → answer ≡ least test (i + 1) (end - (i + 1))
unfolding least
least_more test i end answer within fails so_far =
    let k : end - i ≡ suc (end - (i + 1)) = omega arith in
    let next : i + 1 ≡ suc i = omega arith in
    let one : least test i (end - i) ≡ least test (suc i) (end - (i + 1)) = rw (k, fails) refl in
    so_far ∙ one ∙ ap (λ (j : ℕ). least test j (end - (i + 1))) (sym next)

-- at a number at which it holds, that number is the answer
pub least_here : (test : ℕ → Bool) (i end : ℕ) (answer : Option ℕ) → i < end → test i ≡ true → answer ≡ least test i (end - i) → Some i ≡ answer
unfolding least
least_here test i end answer within holds so_far =
    let k : end - i ≡ suc (end - (i + 1)) = omega arith in
    let one : least test i (end - i) ≡ Some i = rw (k, holds) refl in sym (so_far ∙ one)

-- and at the end there is none
pub least_end : (test : ℕ → Bool) (i end : ℕ) (answer : Option ℕ) → end ≤ i → answer ≡ least test i (end - i) → None ≡ answer
unfolding least
least_end test i end answer past so_far =
    let k : end - i ≡ 0 = omega arith in
    let one : least test i (end - i) ≡ None = rw k refl in sym (so_far ∙ one)
