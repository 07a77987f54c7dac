-- What is counted and what is left is the whole, and short.
use Rattle.std.proofs.Common.{◌≡◌, ◌+◌, ◌*◌, ◌≤◌, ◌<◌, ◌∷◌, ap, subst, ◌∙◌, arith, length}
use Rattle.pw_tree.specs.TypedExpressions.{typed_expression_of, typed_expressions_of}
use Rattle.pw_tree.specs.WellTypedExpressions.{expressions_in_all}
use Rattle.pw_code.specs.ExpressionCode.{expression_words, arguments_words}
use Rattle.pw_code.proofs.Exports.{arguments_are_short}
use Rattle.pw_genexpr.specs.Steps.Emitting.{HaveShortCode}
use Rattle.pw_genexpr.proofs.Trees.{typed_call, typed_call_pointer}
use Rattle.pw_genexpr.proofs.Arguments.{count_of, left_at, fewer_left, none_left, short_first, short_others}
use Rattle.pw_genexpr.proofs.words.+words.Goals as goal

pub call_words-expression_words-requires : goal.call_words-expression_words-requires
unfolding expressions_in_all
call_words-expression_words-requires t c =
    let left = left_at c.args.arguments.now c.loop-argument.argument-index c.argument-item.result c.loop-argument-test.true c.argument-item.is in (
      omega (arith, ap (λ es. expressions_in_all (typed_expressions_of es)) left, fewer_left c.args.arguments.now c.loop-argument.argument-index),
      short_first c.argument-item.result _ (subst (λ es. HaveShortCode (typed_expressions_of es)) left c.loop-argument.invariant.1),
    )

pub call_words-overflow_add-words : goal.call_words-overflow_add-words
call_words-overflow_add-words t c =
    let left = left_at c.args.arguments.now c.loop-argument.argument-index c.argument-item.result c.loop-argument-test.true c.argument-item.is in
    let short = short_first c.argument-item.result _ (subst (λ es. HaveShortCode (typed_expressions_of es)) left c.loop-argument.invariant.1) in
    omega (arith, short.few)

pub call_words-overflow_add-words-in-loop-argument : goal.call_words-overflow_add-words-in-loop-argument
unfolding arguments_words
call_words-overflow_add-words-in-loop-argument t c =
    let left = left_at c.args.arguments.now c.loop-argument.argument-index c.argument-item.result c.loop-argument-test.true c.argument-item.is in
    omega (
      arith,
      c.loop-argument.invariant.0,
      ap (λ es. arguments_words (typed_expressions_of es)) left,
      ap length left,
      arguments_are_short (typed_expressions_of c.args.arguments.now) c.requires.operands,
      count_of c.args.arguments.now,
    )

pub call_words-loop-argument-preserved : goal.call_words-loop-argument-preserved
unfolding arguments_words
call_words-loop-argument-preserved t c =
    let left = left_at c.args.arguments.now c.loop-argument.argument-index c.argument-item.result c.loop-argument-test.true c.argument-item.is in (
      omega (arith, c.loop-argument.invariant.0, ap (λ es. arguments_words (typed_expressions_of es)) left, ap length left),
      short_others c.argument-item.result _ (subst (λ es. HaveShortCode (typed_expressions_of es)) left c.loop-argument.invariant.1),
    )

pub call_words-returns-clause-words : goal.call_words-returns-clause-words
unfolding arguments_words
call_words-returns-clause-words t c =
    let none = none_left c.args.arguments.now c.loop-argument.argument-index c.loop-argument-test.false in
    omega (arith, c.loop-argument.invariant.0, ap (λ es. arguments_words (typed_expressions_of es)) none, ap length none)

pub call_words-returns-clause-few : goal.call_words-returns-clause-few
unfolding arguments_words
call_words-returns-clause-few t c =
    omega (
      arith,
      c.loop-argument.invariant.0,
      arguments_are_short (typed_expressions_of c.args.arguments.now) c.requires.operands,
      count_of c.args.arguments.now,
      c.requires.arguments,
    )

pub expression_words-returns-in-Call-clause-words : goal.expression_words-returns-in-Call-clause-words
unfolding expression_words
expression_words-returns-in-Call-clause-words t c =
    rw (typed_call c.args.e.now c.in-Call.field-0 c.in-Call.arguments c.in-Call.is)
    (omega (
      arith,
      c.call_words.ensures.words,
      count_of c.in-Call.arguments,
      ap (λ es. arguments_words (typed_expressions_of es)) c.as_slice.ensures,
      ap length c.as_slice.ensures,
    ))

pub expression_words-returns-in-CallPtr-clause-words : goal.expression_words-returns-in-CallPtr-clause-words
unfolding expression_words
expression_words-returns-in-CallPtr-clause-words t c =
    rw (typed_call_pointer c.args.e.now c.in-CallPtr.callee c.in-CallPtr.arguments c.in-CallPtr.is)
    (omega (
      arith,
      c.call_words-in-CallPtr.ensures.words,
      count_of c.in-CallPtr.arguments,
      c.fault_words-check.ensures.words,
      c.expression_words-in-CallPtr.ensures.words,
      ap (λ e. expression_words (typed_expression_of e)) c.get-in-CallPtr.ensures,
      ap (λ es. arguments_words (typed_expressions_of es)) c.as_slice-in-CallPtr.ensures,
      ap length c.as_slice-in-CallPtr.ensures,
    ))
