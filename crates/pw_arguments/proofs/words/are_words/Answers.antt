-- One argument more is judged; one that does not pass ends it, and so does the last.
use Rattle.std.proofs.Common.{arith, ap, sym, subst, length, ◌+◌}
use Rattle.std.specs.Prelude.{IsUtf8}
use Rattle.pw_arguments.proofs.Judging.{judged_none, judged_one, judged_all, too_long, no_text, bytes_at, bytes_more}
use Rattle.pw_arguments.proofs.words.are_words.Goals as goal
use Rattle.pw_arguments.proofs.words.are_words.Goals.{then-argument-limit-via-then-argument-limit, then-argument-limit-via-else-argument-limit+then-not-is_text}

pub loop-argument-init : goal.loop-argument-init
loop-argument-init c = judged_none _ c.requires

pub overflow_sub-limit : goal.overflow_sub-limit
overflow_sub-limit c = omega (arith, c.loop-argument.invariant.short)

pub returns-then-argument-limit-clause-no : goal.returns-then-argument-limit-clause-no
returns-then-argument-limit-clause-no c =
    let at = bytes_at c.args.arguments.now c.loop-argument.argument-index c.argument-item.result c.loop-argument-test.true c.argument-item.is in
    let same = c.as_slice-argument.ensures.value in λ _.
    elim c.then-argument-limit.branch [
      | then-argument-limit-via-then-argument-limit w ↦ too_long _ c.loop-argument.bytes _ _ _ c.argument-item.result.items at c.loop-argument.invariant (omega (arith, w.if-argument-limit.true, ap length same))
      | then-argument-limit-via-else-argument-limit+then-not-is_text w ↦ no_text _ _ _ _ c.argument-item.result.items at (λ text. w.is_text.ensures.no w.if-not-is_text.true (subst IsUtf8 (sym same) text))
    ]

pub loop-argument-preserved : goal.loop-argument-preserved
loop-argument-preserved c =
    let same = c.as_slice-argument.ensures.value in
    judged_one _ c.loop-argument.bytes _ _ _ c.argument-item.result.items
    (bytes_more c.args.arguments.now c.loop-argument.argument-index c.argument-item.result c.loop-argument-test.true c.argument-item.is)
    (ap (λ bytes. c.loop-argument.bytes + length bytes) same)
    c.loop-argument.invariant
    (omega (arith, c.if-argument-limit.false))
    (subst IsUtf8 same (c.is_text.ensures.yes c.if-not-is_text.false))

pub returns-clause-yes : goal.returns-clause-yes
returns-clause-yes c = λ _. judged_all _ _ c.args.arguments.now c.loop-argument.argument-index (omega (arith, c.loop-argument-test.false)) (omega (arith, c.if-arguments-limit.false)) c.loop-argument.invariant
