-- The roots so far have level 0.
use Rattle.std.proofs.Common.{length, take}
use Rattle.pw_close.specs.Steps.Marks.{MarksRoots}
use Rattle.pw_close.proofs.graph.Levels.mark_roots.Given as goal

abbrev pub invariant-loop-root : goal.invariant-loop-root
invariant-loop-root l =
    MarksRoots (take l.root-index l.roots) (length l.fn.self.level.items) l.self.level.items l.self.parent.items
