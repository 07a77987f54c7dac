-- One more function of the row is marked, or had a level.
use Rattle.std.proofs.Common.{rules, true≢false, ◌∙◌, get_or}
use Rattle.pw_close.proofs.Marks.{row_more, row_same, one_fewer, fewer_more, is_none_here}
use Rattle.pw_close.proofs.graph.Levels.mark_row.Goals as goal
use Rattle.pw_close.proofs.graph.Levels.mark_row.Goals.{then-is_none, else-is_none}

pub loop-n-preserved : goal.loop-n-preserved
loop-n-preserved c = elim c.if-is_none.branch [
  | then-is_none w ↦
      (let empty = is_none_here c.loop-n.self.level.items (get_or c.args.row.now c.loop-n.n-index 0) _ _ (search rules) c.index.ensures c.is_none.ensures ∙ w.if-is_none.true in
      rw (w.self-is, w.found-is) (
        row_more _ _ _ _ _ _ _ _ c.loop-n.invariant.0 c.loop-n-test.true empty (search rules) (search rules),
        λ h. absurd (true≢false h),
        fewer_more _ _ _ _ (one_fewer _ _ _ _ _ _ _ _ c.loop-n.invariant.0 c.loop-n-test.true empty (search rules) (search rules)) c.loop-n.invariant.2,
      ))
  | else-is_none w ↦
      (let full = is_none_here c.loop-n.self.level.items (get_or c.args.row.now c.loop-n.n-index 0) _ _ (search rules) c.index.ensures c.is_none.ensures ∙ w.if-is_none.false in
      rw (w.self-is, w.found-is)
      (row_same _ _ _ _ _ _ _ _ c.loop-n.invariant.0 c.loop-n-test.true full, c.loop-n.invariant.1, c.loop-n.invariant.2))
]
