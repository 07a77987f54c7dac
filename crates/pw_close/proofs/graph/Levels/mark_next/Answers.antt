-- One more function's row is marked, or left.
use Rattle.std.proofs.Common.{refl, arith, true≢false, ◌∙◌}
use Rattle.pw_close.proofs.Rounds.{round, item_at, marks_items, round_none, found_fewer, kept_fewer}
use Rattle.pw_close.proofs.graph.Levels.mark_next.Goals as goal
use Rattle.pw_close.proofs.graph.Levels.mark_next.Goals.{then-mark_from, else-mark_from}

pub loop-from-init : goal.loop-from-init
loop-from-init c = (round_none _ _ _ _, λ e. refl, omega arith)

pub loop-from-preserved : goal.loop-from-preserved
loop-from-preserved c =
    let marked = round _ _ _ c.row-item.result _ _ c.loop-from.self c.mark_from.new.self c.loop-from.invariant.0
    (item_at _ _ _ _ c.deref-row-items.ensures.value c.loop-from-test.true c.row-item.is)
    (λ e. marks_items _ _ _ _ _ _ _ _ c.deref.ensures.value (c.mark_from.ensures.marks e))
    c.mark_from.ensures.same in
    elim c.if-mark_from.branch [
      | then-mark_from w ↦
          (rw w.found-is (
            marked,
            λ h. absurd (true≢false h),
            found_fewer _ _ _ _ _ w.if-mark_from.true c.mark_from.ensures.fewer c.loop-from.invariant.2,
          ))
      | else-mark_from w ↦
          (rw w.found-is (
            marked,
            λ h. c.mark_from.ensures.none w.if-mark_from.false ∙ c.loop-from.invariant.1 h,
            kept_fewer _ _ _ _ _ c.mark_from.ensures.fewer c.loop-from.invariant.2,
          ))
    ]
