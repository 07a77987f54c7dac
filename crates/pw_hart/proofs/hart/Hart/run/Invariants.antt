-- So many instructions went on, and what runs from there is the rest of the run.
use Rattle.pw_hart.proofs.Runs.{Follows}
use Rattle.pw_hart.proofs.hart.Hart.run.Given as goal

abbrev pub invariant-loop-fetched : goal.invariant-loop-fetched
invariant-loop-fetched g l =
    Follows l._fetched
    (record { hart = l.fn.self; memory = g.M.Memory.state l.fn.mem; input = g.I.Source.state l.fn.input; out = g.O.Sink.state l.fn.out })
    (record { hart = l.self; memory = g.M.Memory.state l.mem; input = g.I.Source.state l.input; out = g.O.Sink.state l.out })
    l.used_up
