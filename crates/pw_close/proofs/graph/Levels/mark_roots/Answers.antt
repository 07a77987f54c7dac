-- One more root is marked.
use Rattle.std.proofs.Common.{rules}
use Rattle.pw_close.proofs.Marks.{roots_more}
use Rattle.pw_close.proofs.graph.Levels.mark_roots.Goals as goal

pub loop-root-preserved : goal.loop-root-preserved
loop-root-preserved c = roots_more _ _ _ _ _ c.loop-root.invariant c.loop-root-test.true (search rules)
