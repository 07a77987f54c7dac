-- Each argument that is there is put after those that were read, and the first that is not there ends them.
use Rattle.std.proofs.Common.{subst, Option, Vec, ℕ, rules}
use Rattle.std.specs.declared.alloc.Global.{Global}
use Rattle.pw_arguments.specs.Arguments.{IsArgument}
use Rattle.pw_arguments.proofs.Reading.{read_none, read_one, read_all}
use Rattle.pw_arguments.proofs.arguments.read_arguments.Goals as goal

pub loop-number-init : goal.loop-number-init
loop-number-init g c = read_none _ _ c.new-found.ensures.items

pub returns-in-None : goal.returns-in-None
returns-in-None g c =
    let P : Option (Vec ℕ Global) → Type 0 = λ found. IsArgument (g.A.Arguments.list c.args.arguments.now) c.loop-number.number found in
    read_all _ _ c.loop-number.number c.loop-number.invariant (subst P c.in-None.is c.in_ok-argument.ensures)

pub loop-number-preserved : goal.loop-number-preserved
loop-number-preserved g c =
    let P : Option (Vec ℕ Global) → Type 0 = λ found. IsArgument (g.A.Arguments.list c.args.arguments.now) c.loop-number.number found in
    read_one _ c.loop-number.found.items _ c.in-Some.argument c.loop-number.number (search rules) c.loop-number.invariant (subst P c.in-Some.is c.in_ok-argument.ensures)
