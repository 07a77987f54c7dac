-- The answers to the goals of `Walk::return_value` in `src/statement_walk.rt`.
use Rattle.std.proofs.Common.{sym, ◌∙◌}
use Rattle.pw_types.proofs.SimpleStatements.{returns_value}
use Rattle.pw_types.proofs.statement_walk.Walk.return_value.Goals as goal

pub returns : goal.returns
returns c =
    rw c.into_inner.ensures (returns_value c.args.setting.now c.args.self.now c.value.new.self _ _ c.in_ok-value.value c.in_ok-value.ensures.0 c.in_ok-value.ensures.1
    (sym c.is_void.ensures ∙ c.if-is_void.false) (rw c.get.ensures at (sym c.converts.ensures ∙ c.if-not-converts.false)))
