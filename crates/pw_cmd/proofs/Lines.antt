-- A line that was put, and the flush after it.
use Rattle.std.proofs.Common.{◌≡◌, ℕ, List, [], Result, Ok, Err, ap, sym, ◌∙◌, append-nil}
use Rattle.std.specs.Result.{OnOk, OnErr}
use Rattle.pw_io.specs.declared.ports.Failed.{Failed}
use Rattle.pw_io.specs.Sink.{SinkState, SinkFails, wrote, flushed_all}
use Rattle.pw_cmd.proofs.Texts.{broken_at}
use Rattle.pw_cmd.specs.Message.{PutsLine}

-- the flush after a line that was put
pub line_ends : (line : List ℕ) (old mid new : SinkState) (result : Result (Unit {0}) Failed) → mid ≡ wrote line old →
    OnOk result (new ≡ flushed_all mid) → OnErr result (SinkFails mid new) → PutsLine line old new result
line_ends line old mid new (Ok _) put flush fails = flush ∙ ap flushed_all put
line_ends line old mid new (Err _) put flush fails = broken_at line line [] old mid new (sym (append-nil line)) put fails
