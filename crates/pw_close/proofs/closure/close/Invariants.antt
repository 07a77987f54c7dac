-- The functions up to this level are marked, and each level marked one at least.
use Rattle.std.proofs.Common.{◌+◌, ◌≤◌}
use Rattle.pw_close.specs.Steps.Marks.{unmarked}
use Rattle.pw_close.proofs.Closing.{ClosedTo}
use Rattle.pw_close.proofs.closure.close.Given as goal

abbrev pub invariant-loop-level : goal.invariant-loop-level
invariant-loop-level l =
    ClosedTo l.graph l.level l.levels.level.items l.levels.parent.items × (l.level + unmarked l.levels.level.items ≤ l.graph.funs)
