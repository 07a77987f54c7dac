-- Where the next digit makes the value too large, the whole value is too large.
use Rattle.std.proofs.Common.{◌<◌, ◌/◌, ◌-◌, ◌^◌, ◌∙◌, arith}
use Rattle.pw_lex.specs.Number.{base}
use Rattle.pw_lex.proofs.Value.{word_value_none_after}
use Rattle.pw_lex.proofs.number.value.Goals as goal

pub returns-then-value-digit : goal.returns-then-value-digit
returns-then-value-digit c =
    let small : c.from-digit.result < 256 = omega arith in
    let large : (2 ^ 64 - 1 - c.from-digit.result) / base c.args.radix < c.loop-digit.value = rw (← c.loop-digit.invariant.1) c.if-value-digit.true in
    word_value_none_after c.args.radix c.args.digits.now c.loop-digit.digit-index c.loop-digit.value c.from-digit.result
    c.loop-digit-test.true (c.from-digit.ensures ∙ c.digit_value.ensures) c.loop-digit.invariant.0 small large
