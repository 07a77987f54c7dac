-- A branch that is taken jumps to its target.
use Rattle.std.proofs.Common.{rules, w32}
use Rattle.std.specs.Int.RustNames.{FitsSigned}
use Rattle.std.proofs.lemmas.Int.{to_z-of_z}
use Rattle.pw_hart.proofs.hart.Hart.branch.Goals as goal

pub returns-then-taken : goal.returns-then-taken
returns-then-taken c = λ mem input output.
    let fits : FitsSigned w32 c.args.imm = search rules in
    let e = simp to_z-of_z at c.target-target.ensures in
    let j = rw e at c.jump.ensures mem input output in
    rw c.if-taken.true j
