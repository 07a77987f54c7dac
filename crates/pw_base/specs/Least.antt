-- The least number of a range at which a test holds, by which a check over items names the first that fails it.
use Rattle.std.specs.Prelude.{◌≡◌, ℕ, zero, suc, ◌+◌, ◌<◌, ◌≤◌, Bool, true, false, Option, Some, None, if◌then◌else◌}

-- of `count` numbers from `start` on, the first at which the test holds
unfoldable pub least : (ℕ → Bool) → ℕ → ℕ → Option ℕ
least test start zero = None
least test start (suc count) = if test start then Some start else least test (suc start) count

-- found is the least number from start, and below limit, at which the test holds
pub record IsLeast (test : ℕ → Bool) (start limit found : ℕ) : Type 0 where
  pub from : start ≤ found
  pub within : found < limit
  pub holds : test found ≡ true
  pub first : (k : ℕ) → start ≤ k → k < found → test k ≡ false

-- what `least` finds is the least
abbrev pub LeastIsLeast : Type 0
LeastIsLeast = (test : ℕ → Bool) (start count found : ℕ) → least test start count ≡ Some found → IsLeast test start (start + count) found

-- and it finds none only where the test holds nowhere
abbrev pub NoneIsNowhere : Type 0
NoneIsNowhere = (test : ℕ → Bool) (start count : ℕ) → least test start count ≡ None → (k : ℕ) → start ≤ k → k < start + count → test k ≡ false
