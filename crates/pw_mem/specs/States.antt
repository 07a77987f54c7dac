-- The state of a memory: its regions and seal, how many fetches it has seen, and at which addresses where it reports them.
use Rattle.std.specs.Prelude.{◌≡◌, ℕ, ◌+◌, ◌-◌, ◌^◌, min, max, List, [], ◌++◌, length, Option, Some, option_map, Result, Ok, Err, IfSome}
use Rattle.pw_mem.specs.declared.errors.Access.{Access}
use Rattle.pw_mem.specs.Memory.{Mem}

-- a memory and its fetches: how many there were, and their addresses in order, where they are reported
pub record MemoryState : Type 0 where
  pub mem : Mem
  pub fetches : ℕ
  pub fetched : Option (List ℕ)

-- the state with another memory and the same fetches
abbrev pub with_mem : MemoryState → Mem → MemoryState
with_mem state m = record state { mem = m }

-- there was no fetch
pub record NoFetches (state : MemoryState) : Type 0 where
  pub fetches : state.fetches ≡ 0
  pub fetched : IfSome state.fetched (λ list. list ≡ [])

-- a count that rose by `k` and stands still at the last number of 64 bits
abbrev pub counted : ℕ → ℕ → ℕ
counted before k = max before (min (before + k) (2 ^ 64 - 1))

-- where the list is reported after it, it is the list before with these addresses appended
abbrev pub Reported : Option (List ℕ) → List ℕ → Option (List ℕ) → Type 0
Reported before addresses after = IfSome after (λ list. option_map (λ first. first ++ addresses) before ≡ Some list)

-- there were fetches at these addresses: they are counted and, where that is reported, appended to the list
pub record AddsFetches (addresses : List ℕ) (old new : MemoryState) : Type 0 where
  pub counts : new.fetches ≡ counted old.fetches (length addresses)
  pub reports : Reported old.fetched addresses new.fetched

-- there was none: the count and the list are as before
pub record KeepsFetches (old new : MemoryState) : Type 0 where
  pub counts : new.fetches ≡ old.fetches
  pub reports : new.fetched ≡ old.fetched

-- a call without a fetch does what `after` says: it leaves that memory, or it answers that refusal and leaves all as it was
abbrev pub Writes : Result Mem Access → MemoryState → MemoryState → Result (Unit {0}) Access → Type 0
Writes (Ok after) old new (Ok done) = new ≡ with_mem old after
Writes (Err refusal) old new (Err answer) = (answer ≡ refusal) × (new ≡ old)
Writes (Ok after) old new (Err answer) = ⊥
Writes (Err refusal) old new (Ok done) = ⊥
