-- The state is that of the hart: its registers are those after the write.
use Rattle.std.proofs.Common.{ap, sym}
use Rattle.pw_hart.specs.State.{Goes}
use Rattle.pw_hart.proofs.hart.Hart.land.Goals as goal

pub returns : goal.returns
returns c = λ mem input output.
    ap (λ x. Goes (record { x = x; pc = c.args.target; steps = c.args.steps; mem = mem; input = input; output = output }))
    (sym c.put.ensures.written)
