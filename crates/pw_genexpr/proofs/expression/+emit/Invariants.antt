-- What is left of the arguments can be emitted, and what is done is code that comes before it.
use Rattle.std.proofs.Common.{◌≡◌, ◌+◌, ◌*◌, ◌++◌, drop}
use Rattle.pw_tree.specs.TypedExpressions.{typed_expression_of, typed_expressions_of}
use Rattle.pw_tree.specs.WellTypedExpressions.{expressions_in, expressions_in_all}
use Rattle.pw_genexpr.specs.Steps.Emitting.{CanEmitAll}
use Rattle.pw_genexpr.proofs.Emitting.{IsUnderWay}
use Rattle.pw_genexpr.proofs.expression.+emit.Given as goal

abbrev pub invariant-emit_arguments-loop-argument : goal.invariant-emit_arguments-loop-argument
invariant-emit_arguments-loop-argument l =
    CanEmitAll l.frame l.slot (typed_expressions_of (drop l.argument-index l.arguments))
    × IsUnderWay l.frame l.fn.held l.slot l.arguments (drop l.argument-index l.arguments) l.fn.to.items l.to.items

abbrev pub decreases-emit : goal.decreases-emit
decreases-emit l = 3 * expressions_in (typed_expression_of l.e.now)

abbrev pub decreases-emit_binary : goal.decreases-emit_binary
decreases-emit_binary l = 3 * (expressions_in (typed_expression_of l.l.now) + expressions_in (typed_expression_of l.r.now)) + 2

abbrev pub decreases-emit_operands : goal.decreases-emit_operands
decreases-emit_operands l = 3 * (expressions_in (typed_expression_of l.l.now) + expressions_in (typed_expression_of l.r.now)) + 1

abbrev pub decreases-emit_and : goal.decreases-emit_and
decreases-emit_and l = 3 * (expressions_in (typed_expression_of l.l.now) + expressions_in (typed_expression_of l.r.now)) + 1

abbrev pub decreases-emit_or : goal.decreases-emit_or
decreases-emit_or l = 3 * (expressions_in (typed_expression_of l.l.now) + expressions_in (typed_expression_of l.r.now)) + 1

abbrev pub decreases-emit_conditional : goal.decreases-emit_conditional
decreases-emit_conditional l =
    3 * (expressions_in (typed_expression_of l.c.now) + (expressions_in (typed_expression_of l.a.now) + expressions_in (typed_expression_of l.b.now))) + 1

abbrev pub decreases-emit_call : goal.decreases-emit_call
decreases-emit_call l = 3 * expressions_in_all (typed_expressions_of l.arguments.now) + 2

abbrev pub decreases-emit_call_pointer : goal.decreases-emit_call_pointer
decreases-emit_call_pointer l =
    3 * (expressions_in (typed_expression_of l.callee.now) + expressions_in_all (typed_expressions_of l.arguments.now)) + 2

abbrev pub decreases-emit_arguments : goal.decreases-emit_arguments
decreases-emit_arguments l = 3 * expressions_in_all (typed_expressions_of l.arguments.now) + 1
