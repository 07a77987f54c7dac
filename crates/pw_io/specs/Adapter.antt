-- What the adapters over std's readers, writers and files hold, and what a call of theirs takes from a reader.
use Rattle.std.specs.Prelude.{ℕ, List, [], ◌∷◌, Option, None}
use Rattle.std.specs.Io.KnownBytes.{Consumes, IsAtEnd, Keeps}
use Rattle.pw_io.specs.declared.ports.Next.{Next}
use Rattle.pw_io.specs.declared.ports.Next.TheVariants.{Byte, End, Failed}
use Rattle.pw_io.specs.Source.{SourceState}
use Rattle.pw_io.specs.Sink.{SinkState}

-- a reader or a writer of std, and how many calls on it have failed
pub record Adapter (Inner : Type 0) : Type 0 where
  pub inner : Inner
  pub faults : ℕ

-- as a source it reports nothing but the count
abbrev pub silent_source : {Inner : Type 0} → Adapter Inner → SourceState
silent_source a = record { left = None; faults = a.faults }

-- as a sink it reports nothing but the count
abbrev pub silent_sink : {Inner : Type 0} → Adapter Inner → SinkState
silent_sink a = record { holds = None; faults = a.faults }

-- where the reader's bytes are known: a byte is the first of them, the end comes where none is left, and a failure takes none
abbrev pub TakesFrom : Option (List ℕ) → Next → Option (List ℕ) → Type 0
TakesFrom old (Byte byte) new = Consumes old new (byte ∷ [])
TakesFrom old End new = Consumes old new [] × IsAtEnd new
TakesFrom old Failed new = Keeps old new
