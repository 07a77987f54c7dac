-- What the functions so far of the level lead to is marked, and where nothing was, nothing changed.
use Rattle.std.proofs.Common.{◌≡◌, ◌+◌, ◌≤◌, false, cond}
use Rattle.pw_close.specs.Steps.Marks.{MarksNext, unmarked}
use Rattle.pw_close.proofs.graph.Levels.mark_next.Given as goal

abbrev pub invariant-loop-from : goal.invariant-loop-from
invariant-loop-from l =
    MarksNext l.graph l.level l.from l.fn.self.level.items l.fn.self.parent.items l.self.level.items l.self.parent.items
    × (l.found ≡ false → l.self ≡ l.fn.self)
    × (unmarked l.self.level.items + cond l.found 1 0 ≤ unmarked l.fn.self.level.items)
