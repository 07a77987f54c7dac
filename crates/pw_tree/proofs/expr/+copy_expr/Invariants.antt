-- The copies made so far are the first expressions.
use Rattle.std.proofs.Common.{◌≡◌, take}
use Rattle.pw_tree.proofs.expr.+copy_expr.Given as goal

abbrev pub invariant-Expr::copy_all-loop-expr : goal.invariant-Expr::copy_all-loop-expr
invariant-Expr::copy_all-loop-expr l = l.copies ≡ take l.expr-index l.exprs
