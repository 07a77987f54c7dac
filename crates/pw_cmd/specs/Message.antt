-- What the messages hold once a line was said.
use Rattle.std.specs.Prelude.{◌≡◌, ℕ, List, ◌⊎◌, Result, Ok, Err}
use Rattle.pw_io.specs.declared.ports.Failed.{Failed}
use Rattle.pw_io.specs.Sink.{SinkState, wrote, flushed_all}
use Rattle.pw_hart.specs.Outside.{Outside, with_messages}
use Rattle.pw_cmd.specs.Says.{BreaksOff}

-- the line was put and flushed, or that broke off
abbrev pub PutsLine : List ℕ → SinkState → SinkState → Result (Unit {0}) Failed → Type 0
PutsLine line old new (Ok _) = new ≡ flushed_all (wrote line old)
PutsLine line old new (Err _) = BreaksOff line old new

-- the line was put and flushed and the status is the answer's, or that broke off and it is 7
abbrev pub Reports : List ℕ → ℕ → SinkState → SinkState → ℕ → Type 0
Reports line status old new result =
    ((result ≡ status) × (new ≡ flushed_all (wrote line old))) ⊎ ((result ≡ 7) × BreaksOff line old new)

-- the outside once the words are carried out, before the answer is reported
abbrev pub unreported : Outside → Outside → Outside
unreported old new = with_messages new old.messages
