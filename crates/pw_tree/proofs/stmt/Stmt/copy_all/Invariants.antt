-- The copies made so far are the first items.
use Rattle.std.proofs.Common.{◌≡◌, take}
use Rattle.pw_tree.proofs.stmt.Stmt.copy_all.Given as goal

abbrev pub invariant-loop-stmt : goal.invariant-loop-stmt
invariant-loop-stmt l = l.copies ≡ take l.stmt-index l.stmts
