-- The answers to the goals of `Walk::evaluate` in `src/statement_walk.rt`.
use Rattle.pw_types.proofs.SimpleStatements.{evaluates}
use Rattle.pw_types.proofs.statement_walk.Walk.evaluate.Goals as goal

pub returns : goal.returns
returns c =
    rw c.into_inner.ensures (evaluates c.args.setting.now c.args.self.now c.value.new.self _ _ c.in_ok-value.value c.in_ok-value.ensures.0 c.in_ok-value.ensures.1)
