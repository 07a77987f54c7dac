-- What is left to count, with what is counted, is the whole.
use Rattle.std.proofs.Common.{◌≡◌, ◌+◌, ◌*◌, drop, length}
use Rattle.pw_tree.specs.TypedExpressions.{typed_expression_of, typed_expressions_of}
use Rattle.pw_tree.specs.WellTypedExpressions.{expressions_in, expressions_in_all}
use Rattle.pw_code.specs.ExpressionCode.{arguments_words}
use Rattle.pw_genexpr.specs.Steps.Emitting.{HaveShortCode}
use Rattle.pw_genexpr.proofs.words.+words.Given as goal

abbrev pub invariant-call_words-loop-argument : goal.invariant-call_words-loop-argument
invariant-call_words-loop-argument l =
    (l.words + (arguments_words (typed_expressions_of (drop l.argument-index l.arguments)) + length (drop l.argument-index l.arguments))
    ≡ arguments_words (typed_expressions_of l.arguments) + length l.arguments)
    × HaveShortCode (typed_expressions_of (drop l.argument-index l.arguments))

-- An expression is longer than its parts, and its arguments together than each of them.
abbrev pub decreases-expression_words : goal.decreases-expression_words
decreases-expression_words l = 2 * expressions_in (typed_expression_of l.e.now)

abbrev pub decreases-call_words : goal.decreases-call_words
decreases-call_words l = 2 * expressions_in_all (typed_expressions_of l.arguments.now) + 1
