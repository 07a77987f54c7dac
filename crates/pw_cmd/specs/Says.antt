-- What a sink holds once a text was put into it, or a prefix of it.
use Rattle.std.specs.Prelude.{◌≡◌, ℕ, List, ◌++◌, Result, Ok, Err}
use Rattle.pw_io.specs.declared.ports.Failed.{Failed}
use Rattle.pw_io.specs.Sink.{SinkState, SinkFails, wrote}

-- A prefix of the bytes was put, and then a call failed.
pub record BreaksOff (bytes : List ℕ) (old new : SinkState) : Type 0 where
  pub put : List ℕ
  pub more : List ℕ
  pub whole : bytes ≡ put ++ more
  pub fails : SinkFails (wrote put old) new

-- all of the bytes were put, or the putting broke off
abbrev pub PutsAll : List ℕ → SinkState → SinkState → Result (Unit {0}) Failed → Type 0
PutsAll bytes old new (Ok _) = new ≡ wrote bytes old
PutsAll bytes old new (Err _) = BreaksOff bytes old new
