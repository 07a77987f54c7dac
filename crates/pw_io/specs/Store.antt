-- What a store of files means: the files by name and the calls made on it, where it reports them, and its count of faults.
use Rattle.std.specs.Prelude.{◌≡◌, ◌≢◌, ℕ, ◌<◌, ◌≤◌, List, [], ◌∷◌, ◌++◌, length, Option, Some, None, option_map, Result, Ok, Err, Vec, IfSome, IsSomeAnd}
use Rattle.std.specs.declared.alloc.Global.{Global}
use Rattle.pw_io.specs.declared.ports.Asked.{Asked}
use Rattle.pw_io.specs.declared.ports.Asked.TheVariants.{Read, Write}
use Rattle.pw_io.specs.declared.errors.ReadError.{ReadError}
use Rattle.pw_io.specs.declared.errors.ReadError.TheVariants.{Failed, TooLong, NoMemory}
use Rattle.pw_io.specs.declared.errors.WriteError.{WriteError}
use Rattle.pw_io.specs.declared.errors.WriteError.TheVariants as no_write
use Rattle.pw_io.specs.Faults.{Rises}

-- the bytes of each file by its name, and nothing for a name that no file has
abbrev pub Files : Type 0
Files = List ℕ → Option (List ℕ)

-- the files and the calls made, where they are reported, and how many calls have failed
pub record StoreState : Type 0 where
  pub files : Option Files
  pub calls : Option (List Asked)
  pub faults : ℕ

-- the store once these calls were made, none of which failed or wrote
abbrev pub called_all : List Asked → StoreState → StoreState
called_all asked s = record { files = s.files; calls = option_map (λ made. made ++ asked) s.calls; faults = s.faults }

-- the store once this call was made
abbrev pub called : Asked → StoreState → StoreState
called asked s = called_all (asked ∷ []) s

-- the file of this name has these bytes, where the files are reported
abbrev pub StandsIn : Option Files → List ℕ → List ℕ → Type 0
StandsIn files name bytes = IfSome files (λ at. at name ≡ Some bytes)

-- the file of this name is there and has more bytes than the limit, where the files are reported
abbrev pub PassesLimit : Option Files → List ℕ → ℕ → Type 0
PassesLimit files name limit = IfSome files (λ at. IsSomeAnd (at name) (λ bytes. limit < length bytes))

-- every file of another name is as before, and what was reported of files is reported still
abbrev pub OthersStay : List ℕ → Option Files → Option Files → Type 0
OthersStay name None None = Unit {0}
OthersStay name (Some old) (Some new) = (other : List ℕ) → other ≢ name → new other ≡ old other
OthersStay name _ _ = ⊥

-- a failed read changes no file, adds itself to the calls, and the count rises
pub record ReadFails (old : StoreState) (name : List ℕ) (new : StoreState) : Type 0 where
  pub files : new.files ≡ old.files
  pub calls : new.calls ≡ (called (Read name) old).calls
  pub faults : Rises old.faults new.faults

-- a write that is done: the file has these bytes, the others stay, the call is added, and the count is as before
pub record Replaces (old : StoreState) (name bytes : List ℕ) (new : StoreState) : Type 0 where
  pub file : StandsIn new.files name bytes
  pub others : OthersStay name old.files new.files
  pub calls : new.calls ≡ (called (Write name) old).calls
  pub faults : new.faults ≡ old.faults

-- a failed write leaves anything in that file, and all others as before; the call is added, and the count rises
pub record WriteFails (old : StoreState) (name : List ℕ) (new : StoreState) : Type 0 where
  pub others : OthersStay name old.files new.files
  pub calls : new.calls ≡ (called (Write name) old).calls
  pub faults : Rises old.faults new.faults

-- what a read answers and leaves: the whole file, of at most `limit` bytes; that it has more; a failure; or nothing done since memory ran out
abbrev pub Reads : StoreState → List ℕ → ℕ → StoreState → Result (Vec ℕ Global) ReadError → Type 0
Reads old name limit new (Ok bytes) = (new ≡ called (Read name) old) × (length bytes.items ≤ limit) × StandsIn old.files name bytes.items
Reads old name limit new (Err (TooLong most)) = (new ≡ called (Read name) old) × (most ≡ limit) × PassesLimit old.files name limit
Reads old name limit new (Err Failed) = ReadFails old name new
Reads old name limit new (Err NoMemory) = new ≡ old

-- what a write answers and leaves: the file replaced; a failure; or nothing done since memory ran out
abbrev pub Writes : StoreState → List ℕ → List ℕ → StoreState → Result (Unit {0}) WriteError → Type 0
Writes old name bytes new (Ok _) = Replaces old name bytes new
Writes old name bytes new (Err no_write.Failed) = WriteFails old name new
Writes old name bytes new (Err no_write.NoMemory) = new ≡ old
