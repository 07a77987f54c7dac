-- The copies made so far are the first parts, and each iteration leaves one part less.
use Rattle.std.proofs.Common.{◌≡◌, ◌-◌, length, take}
use Rattle.pw_tree.specs.Steps.Nested.{parts_of_kind}
use Rattle.pw_tree.proofs.stmt.StmtKind.copied_parts.Given as goal

abbrev pub invariant-loop-part : goal.invariant-loop-part
invariant-loop-part l = l.copies ≡ take (length l.copies) (parts_of_kind l.self)

abbrev pub decreases-loop-part : goal.decreases-loop-part
decreases-loop-part l = length (parts_of_kind l.self) - length l.copies
