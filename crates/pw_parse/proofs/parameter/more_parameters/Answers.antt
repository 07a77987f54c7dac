-- The answers to the goals of `more_parameters` in `src/parameter.rt`.
use Rattle.std.proofs.Common.{rules, arith}
use Rattle.std.proofs.lemmas.Grind.{common_steps}
use Rattle.pw_grammar.specs.Reading.Declarations.{more_parameters}
use Rattle.pw_parse.proofs.Iterations.{one_more, no_more}
use Rattle.pw_parse.proofs.parameter.more_parameters.Goals as goal

pub returns-then-not-sees : goal.returns-then-not-sees
unfolding more_parameters
returns-then-not-sees c =
    let e = one_more (λ n. more_parameters n c.loop-iteration.found c.loop-iteration.cursor) _ c.loop-iteration._iteration c.loop-iteration-test.true c.loop-iteration.invariant in
    first_of (search rules, grind (arith, common_steps))

pub returns-in_err-skip : goal.returns-in_err-skip
unfolding more_parameters
returns-in_err-skip c =
    let e = one_more (λ n. more_parameters n c.loop-iteration.found c.loop-iteration.cursor) _ c.loop-iteration._iteration c.loop-iteration-test.true c.loop-iteration.invariant in
    first_of (search rules, grind (arith, common_steps))

pub returns-in_err-parameter : goal.returns-in_err-parameter
unfolding more_parameters
returns-in_err-parameter c =
    let e = one_more (λ n. more_parameters n c.loop-iteration.found c.loop-iteration.cursor) _ c.loop-iteration._iteration c.loop-iteration-test.true c.loop-iteration.invariant in
    first_of (search rules, grind (arith, common_steps))

pub loop-iteration-preserved : goal.loop-iteration-preserved
unfolding more_parameters
loop-iteration-preserved c =
    let e = one_more (λ n. more_parameters n c.loop-iteration.found c.loop-iteration.cursor) _ c.loop-iteration._iteration c.loop-iteration-test.true c.loop-iteration.invariant in
    first_of (search rules, grind (arith, common_steps))

pub returns : goal.returns
unfolding more_parameters
returns c =
    let e = no_more (λ n. more_parameters n c.loop-iteration.found c.loop-iteration.cursor) _ c.loop-iteration._iteration c.loop-iteration-test.false c.loop-iteration.invariant in
    first_of (search rules, grind (arith, common_steps))
