-- What a sink of bytes means: the bytes written and how many are flushed, where it reports them, and its count of faults.
use Rattle.std.specs.Prelude.{◌≡◌, ℕ, List, ◌++◌, length, Option, option_map}
use Rattle.pw_io.specs.Faults.{Rises}

-- the bytes written, and how many of them are flushed
pub record Holds : Type 0 where
  pub written : List ℕ
  pub flushed : ℕ

-- what the sink holds, where it reports that, and how many calls have failed
pub record SinkState : Type 0 where
  pub holds : Option Holds
  pub faults : ℕ

-- what is held once these bytes were appended
abbrev pub with_bytes : List ℕ → Holds → Holds
with_bytes bytes h = record { written = h.written ++ bytes; flushed = h.flushed }

-- what is held once all of it is flushed
abbrev pub all_flushed : Holds → Holds
all_flushed h = record { written = h.written; flushed = length h.written }

-- the sink once these bytes were written to it
abbrev pub wrote : List ℕ → SinkState → SinkState
wrote bytes s = record { holds = option_map (with_bytes bytes) s.holds; faults = s.faults }

-- the sink once it was flushed
abbrev pub flushed_all : SinkState → SinkState
flushed_all s = record { holds = option_map all_flushed s.holds; faults = s.faults }

-- a failed call appends nothing and flushes nothing, and the count rises
pub record SinkFails (old new : SinkState) : Type 0 where
  pub holds : new.holds ≡ old.holds
  pub faults : Rises old.faults new.faults
