-- The answers to the goals of `wrapped` in `src/operator.rt`.
use Rattle.std.proofs.Common.{ℕ}
use Rattle.pw_tree.specs.declared.operator.Un.{Un}
use Rattle.pw_parse.proofs.Wrapping.{one_inner, none_inner}
use Rattle.pw_parse.proofs.operator.wrapped.Goals as goal

pub inner-preserved : goal.inner-preserved
inner-preserved c =
    let op : Un × ℕ = (c.in-Some.op, c.in-Some.line) in
    one_inner c.inner.at c.args.last c.inner.ops c.pop.new.self op c.inner.whole _
    c.in-Some.ensures c.in_ok-whole.ensures c.inner.invariant.1 c.inner.invariant.0

pub returns : goal.returns
returns c = none_inner c.inner.at c.args.last c.inner.ops c.inner.whole c.in_default.ensures.0 c.inner.invariant.0
