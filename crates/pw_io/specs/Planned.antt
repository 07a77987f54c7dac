-- The calls of an object that are to fail: their numbers, counted from 1 over all of its calls.
use Rattle.std.specs.Prelude.{ℕ, List, Contains, ◌+◌, ◌^◌, ◌<◌}
use Rattle.pw_io.specs.Faults.{risen}

-- the numbers of the calls that are to fail, and how many calls were made, up to 2^64-1
pub record Planned : Type 0 where
  pub fails : List ℕ
  pub made : ℕ

-- the plan before any call
abbrev pub unused : List ℕ → Planned
unused fails = record { fails = fails; made = 0 }

-- the plan once one more call was made
abbrev pub one_more : Planned → Planned
one_more p = record { fails = p.fails; made = risen p.made }

-- the next call has a number of 64 bits, and it is one of those that are to fail
abbrev pub FailsNext : Planned → Type 0
FailsNext p = (p.made + 1 < 2 ^ 64) × Contains p.fails (p.made + 1)
