-- What a count of faults shows once it rose.
use Rattle.std.proofs.Common.{ℕ, ◌+◌, ◌-◌, ◌^◌, ◌<◌, ◌≤◌, ◌⊎◌, min, arith}
use Rattle.pw_io.specs.Faults.{Rises}

-- a count that rose did rise in this call, or stands at the end of its type
pub Rises-grew_or_full : (old new : ℕ) → Rises old new → (old < new) ⊎ (2 ^ 64 - 1 ≤ new)
Rises-grew_or_full old new rises = let rose : min (old + 1) (2 ^ 64 - 1) ≤ new = rises.rose in grind arith

-- a count that rose is still a count that rose after later calls
pub Rises-later : (old mid new : ℕ) → Rises old mid → mid ≤ new → Rises old new
Rises-later old mid new rises later = record {
  never_falls = omega (arith, rises.never_falls);
  rose = omega (arith, rises.rose);
}
