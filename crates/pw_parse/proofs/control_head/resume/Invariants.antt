-- The statement so far, inside the heads that are left, is the whole.
use Rattle.std.proofs.Common.{◌≡◌, ◌≤◌, length, Ok}
use Rattle.pw_parse.specs.Steps.Nesting.{resume}
use Rattle.pw_parse.proofs.control_head.resume.Given as goal

abbrev pub invariant-outward : goal.invariant-outward
invariant-outward l = (resume l.depth l.fn.heads (Ok (l.fn.inner, l.fn.cursor)) ≡ resume l.depth l.heads (Ok (l.stmt, l.cursor)))
    × (length l.heads ≤ length l.fn.heads) × (length l.cursor.rest ≤ length l.fn.cursor.rest)

abbrev pub decreases-outward : goal.decreases-outward
decreases-outward l = length l.heads
