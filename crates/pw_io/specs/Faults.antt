-- Counts of faults: numbers of 64 bits that rise at each failed call, and stand still at the end of their type.
use Rattle.std.specs.Prelude.{ℕ, ◌+◌, ◌-◌, ◌^◌, ◌≤◌, min}

-- the least count that a failed call may leave: one more, up to 2^64-1
abbrev pub risen : ℕ → ℕ
risen count = min (count + 1) (2 ^ 64 - 1)

-- a count through a failed call: it never falls, and it rises until it stands at its end
pub record Rises (old new : ℕ) : Type 0 where
  pub never_falls : old ≤ new
  pub rose : risen old ≤ new
