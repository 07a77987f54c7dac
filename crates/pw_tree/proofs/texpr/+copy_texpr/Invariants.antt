-- The copies made so far are the first expressions.
use Rattle.std.proofs.Common.{◌≡◌, take}
use Rattle.pw_tree.proofs.texpr.+copy_texpr.Given as goal

abbrev pub invariant-TExpr::copy_all-loop-expr : goal.invariant-TExpr::copy_all-loop-expr
invariant-TExpr::copy_all-loop-expr l = l.copies ≡ take l.expr-index l.exprs
