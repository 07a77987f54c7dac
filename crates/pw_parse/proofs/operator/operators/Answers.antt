-- The answers to the goals of `operators` in `src/operator.rt`.
use Rattle.std.proofs.Common.{rules, arith}
use Rattle.std.proofs.lemmas.Grind.{common_steps}
use Rattle.pw_grammar.specs.Reading.Expressions.{operators}
use Rattle.pw_parse.proofs.Iterations.{one_more, no_more}
use Rattle.pw_parse.proofs.operator.operators.Goals as goal

pub returns-in_err-prefix_operator : goal.returns-in_err-prefix_operator
unfolding operators
returns-in_err-prefix_operator c =
    let e = one_more (λ n. operators n c.loop-iteration.found c.loop-iteration.cursor) _ c.loop-iteration._iteration c.loop-iteration-test.true c.loop-iteration.invariant in
    first_of (search rules, grind (arith, common_steps))

pub returns-in-None : goal.returns-in-None
unfolding operators
returns-in-None c =
    let e = one_more (λ n. operators n c.loop-iteration.found c.loop-iteration.cursor) _ c.loop-iteration._iteration c.loop-iteration-test.true c.loop-iteration.invariant in
    first_of (search rules, grind (arith, common_steps))

pub loop-iteration-preserved : goal.loop-iteration-preserved
unfolding operators
loop-iteration-preserved c =
    let e = one_more (λ n. operators n c.loop-iteration.found c.loop-iteration.cursor) _ c.loop-iteration._iteration c.loop-iteration-test.true c.loop-iteration.invariant in
    first_of (search rules, grind (arith, common_steps))

pub returns : goal.returns
unfolding operators
returns c =
    let e = no_more (λ n. operators n c.loop-iteration.found c.loop-iteration.cursor) _ c.loop-iteration._iteration c.loop-iteration-test.false c.loop-iteration.invariant in
    first_of (search rules, grind (arith, common_steps))
