-- The answers to the goals of `emit_expr` in `src/expression.rt`.
use Rattle.pw_tree.specs.TypedExpressions.{typed_expression_of}
use Rattle.pw_genexpr.proofs.Emitting.{can_emit}
use Rattle.pw_genexpr.proofs.expression.emit_expr.Goals as goal

pub emit-requires : goal.emit-requires
emit-requires c = can_emit c.args.frame.now c.args.held (typed_expression_of c.args.e.now) c.requires
