-- What the implementations in memory hold, and what they report of it as a source, a sink or a store.
use Rattle.std.specs.Prelude.{◌≡◌, ◌≢◌, ℕ, ◌+◌, List, [], ◌∷◌, ◌++◌, length, Contains, find, Some, None, option_map, Result, Ok, Err, Vec}
use Rattle.std.specs.Str.{bytes_eq}
use Rattle.std.specs.declared.alloc.Global.{Global}
use Rattle.pw_io.specs.declared.ports.Asked.{Asked}
use Rattle.pw_base.specs.declared.no_memory.NoMemory.{NoMemory}
use Rattle.pw_io.specs.declared.errors.ReadError.{ReadError}
use Rattle.pw_io.specs.declared.errors.ReadError.TheVariants as no_read
use Rattle.pw_io.specs.declared.errors.WriteError.{WriteError}
use Rattle.pw_io.specs.declared.errors.WriteError.TheVariants as no_write
use Rattle.pw_io.specs.Faults.{risen, Rises}
use Rattle.pw_io.specs.Source.{SourceState}
use Rattle.pw_io.specs.Sink.{Holds, SinkState}
use Rattle.pw_io.specs.Store.{Files, StoreState}
use Rattle.pw_io.specs.Planned.{Planned}

-- a source in memory: the bytes left, the calls that are to fail, and the count of faults
pub record SourceInMemory : Type 0 where
  pub left : List ℕ
  pub planned : Planned
  pub faults : ℕ

-- it reports its bytes
abbrev pub reported_source : SourceInMemory → SourceState
reported_source s = record { left = Some s.left; faults = s.faults }

-- a sink in memory: what it holds, how many bytes it has room for, the calls that are to fail, and the count of faults
pub record SinkInMemory : Type 0 where
  pub holds : Holds
  pub room : ℕ
  pub planned : Planned
  pub faults : ℕ

-- it reports what it holds
abbrev pub reported_sink : SinkInMemory → SinkState
reported_sink s = record { holds = Some s.holds; faults = s.faults }

-- as many bytes are held as there is room for
abbrev pub IsFull : SinkInMemory → Type 0
IsFull s = length s.holds.written ≡ s.room

-- a file in memory: its name and its bytes
abbrev pub File : Type 0
File = List ℕ × Vec ℕ Global

-- the bytes of the first file of a name, and nothing where no file has it
abbrev pub bytes_of : List File → Files
bytes_of files name = option_map (λ file. file.1.items) (find (λ file. bytes_eq file.0 name) files)

-- a store in memory: its files, the numbers of the calls that are to fail, the calls made, and the count of faults
pub record StoreInMemory : Type 0 where
  pub files : List File
  pub fails : List ℕ
  pub calls : List Asked
  pub faults : ℕ

-- it reports its files and the calls made on it
abbrev pub reported_store : StoreInMemory → StoreState
reported_store s = record { files = Some (bytes_of s.files); calls = Some s.calls; faults = s.faults }

-- the number of the next call, counted from 1, is one of those that are to fail
abbrev pub IsListed : StoreInMemory → Type 0
IsListed s = Contains s.fails (length s.calls + 1)

-- no file has the name
abbrev pub IsMissing : StoreInMemory → List ℕ → Type 0
IsMissing s name = bytes_of s.files name ≡ None

-- a read that is not refused for memory fails exactly where this holds
abbrev pub ReadFailsWhere : {T : Type 0} → Type 0 → Result T ReadError → Type 0
ReadFailsWhere why (Ok _) = ¬ why
ReadFailsWhere why (Err no_read.Failed) = why
ReadFailsWhere why (Err (no_read.TooLong _)) = ¬ why
ReadFailsWhere why (Err no_read.NoMemory) = Unit {0}

-- and a write where this does
abbrev pub WriteFailsWhere : {T : Type 0} → Type 0 → Result T WriteError → Type 0
WriteFailsWhere why (Ok _) = ¬ why
WriteFailsWhere why (Err no_write.Failed) = why
WriteFailsWhere why (Err no_write.NoMemory) = Unit {0}

-- a call is let fail: it is added to the calls and the count rises by one, or memory ran out and nothing is done
abbrev pub Fails : StoreInMemory → Asked → StoreInMemory → Result (Unit {0}) NoMemory → Type 0
Fails old asked new (Ok _) =
    (new ≡ record { files = old.files; fails = old.fails; calls = old.calls ++ asked ∷ []; faults = risen old.faults })
    × Rises old.faults new.faults
Fails old asked new (Err _) = new ≡ old

-- what writing a file does to the files: that file has the bytes and the others are as before, or memory ran out and all are
abbrev pub WritesFile : List File → List ℕ → List ℕ → List File → Result (Unit {0}) NoMemory → Type 0
WritesFile old name bytes new (Ok _) = (bytes_of new name ≡ Some bytes) × ((other : List ℕ) → other ≢ name → bytes_of new other ≡ bytes_of old other)
WritesFile old name bytes new (Err _) = new ≡ old
