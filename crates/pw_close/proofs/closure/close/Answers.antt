-- Level by level: the roots, one level more, and the end, where a round marked nothing or every function has a level.
use Rattle.std.proofs.Common.{◌∙◌}
use Rattle.pw_close.proofs.Closing.{roots_close, roots_as, few_unmarked, quiet, goes_on, full}
use Rattle.pw_close.proofs.closure.close.Goals as goal

pub loop-level-init : goal.loop-level-init
loop-level-init c =
    let fresh = c.in_ok-levels.ensures in (
      roots_close _ _ _ (roots_as _ _ _ _ _ _ c.deref.ensures.value fresh.levels_all c.mark_roots.ensures),
      few_unmarked _ _ (c.mark_roots.ensures.levels_all ∙ fresh.levels_all),
    )

pub returns-then-not-mark_next : goal.returns-then-not-mark_next
returns-then-not-mark_next c =
    quiet _ c.requires _ c.loop-level.levels _ c.loop-level.invariant.0 c.mark_next.ensures.marks (c.mark_next.ensures.none c.if-not-mark_next.true)

pub loop-level-preserved : goal.loop-level-preserved
loop-level-preserved c =
    goes_on _ c.requires _ c.loop-level.levels c.mark_next.new.self _ c.loop-level.invariant c.mark_next.ensures.marks c.if-not-mark_next.false c.mark_next.ensures.fewer

pub returns : goal.returns
returns c = full _ c.requires _ c.loop-level.levels c.loop-level.invariant c.loop-level-test.false
