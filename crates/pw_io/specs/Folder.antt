-- What the store of the current folder reports, and what reading one of its files answers.
use Rattle.std.specs.Prelude.{◌≡◌, ℕ, ◌<◌, ◌≤◌, List, length, Option, None, Result, Ok, Err, Vec, IfSome}
use Rattle.std.specs.declared.alloc.Global.{Global}
use Rattle.pw_io.specs.declared.errors.ReadError.{ReadError}
use Rattle.pw_io.specs.declared.errors.ReadError.TheVariants.{Failed, TooLong}
use Rattle.pw_io.specs.Faults.{Rises, risen}
use Rattle.pw_io.specs.Store.{StoreState}

-- the store of the current folder, seen as its count of faults, reports nothing else
abbrev pub silent_store : ℕ → StoreState
silent_store faults = record { files = None; calls = None; faults = faults }

-- what a reader with these bytes left, where they are known, is read to: all of them, at most `limit`, or that there are more
abbrev pub ReadsAll : Option (List ℕ) → ℕ → Result (Vec ℕ Global) ReadError → Type 0
ReadsAll left limit (Ok bytes) = (length bytes.items ≤ limit) × IfSome left (λ known. bytes.items ≡ known)
ReadsAll left limit (Err (TooLong most)) = (most ≡ limit) × IfSome left (λ known. limit < length known)
ReadsAll left limit (Err _) = Unit {0}

-- the count after a failure: it rises by one, up to 2^64-1
abbrev pub CountsFailure : ℕ → ℕ → Type 0
CountsFailure old new = Rises old new × (new ≡ risen old)

-- the count after a read that gave no bytes: it rises at a failure, and stays at every other
abbrev pub CountsRead : ℕ → ReadError → ℕ → Type 0
CountsRead old Failed new = CountsFailure old new
CountsRead old _ new = new ≡ old
