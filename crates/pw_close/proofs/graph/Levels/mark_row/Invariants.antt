-- The functions of the row so far are marked, and where none was, nothing changed.
use Rattle.std.proofs.Common.{◌≡◌, ◌+◌, ◌≤◌, false, take, cond}
use Rattle.pw_close.specs.Steps.Marks.{MarksRow, unmarked}
use Rattle.pw_close.proofs.graph.Levels.mark_row.Given as goal

abbrev pub invariant-loop-n : goal.invariant-loop-n
invariant-loop-n l =
    MarksRow (take l.n-index l.row) l.level l.parent l.fn.self.level.items l.fn.self.parent.items l.self.level.items l.self.parent.items
    × (l.found ≡ false → l.self ≡ l.fn.self)
    × (unmarked l.self.level.items + cond l.found 1 0 ≤ unmarked l.fn.self.level.items)
