-- What was put so far is a prefix of the bytes.
use Rattle.std.proofs.Common.{◌≡◌, take}
use Rattle.pw_io.specs.Sink.{wrote}
use Rattle.pw_cmd.proofs.says.put_all.Given as goal

abbrev pub invariant-loop-byte : goal.invariant-loop-byte
invariant-loop-byte g l = g.E.Sink.state l.sink ≡ wrote (take l.byte-index l.bytes) (g.E.Sink.state l.fn.sink)
