-- A jump that does not trap lands, with one step less where it is counted.
use Rattle.std.proofs.Common.{◌∙◌}
use Rattle.pw_hart.proofs.Jumps.{jumps-counted, jumps-free}
use Rattle.pw_hart.proofs.hart.Hart.jump.Goals as goal

pub returns-then-counted : goal.returns-then-counted
returns-then-counted c = λ mem input output.
    rw c.if-counted.true
    (jumps-counted c.args.target _ _ c.if-target-ne0.false c.if-self-eq0.false ∙ c.land.ensures mem input output)

pub returns : goal.returns
returns c = λ mem input output.
    rw c.if-counted.false (jumps-free c.args.target _ _ c.if-target-ne0.false ∙ c.land-2.ensures mem input output)
