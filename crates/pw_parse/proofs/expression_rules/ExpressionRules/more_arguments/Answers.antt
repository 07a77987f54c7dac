-- The answers to the goals of `ExpressionRules::more_arguments` in `src/expression_rules.rt`.
use Rattle.std.proofs.Common.{rules, arith}
use Rattle.std.proofs.lemmas.Grind.{common_steps}
use Rattle.pw_grammar.specs.Reading.Expressions.{expression, more_arguments}
use Rattle.pw_parse.proofs.Iterations.{one_more, no_more}
use Rattle.pw_parse.proofs.expression_rules.ExpressionRules.more_arguments.Goals as goal

pub returns-then-not-sees : goal.returns-then-not-sees
unfolding more_arguments
returns-then-not-sees g c =
    let e = one_more (λ n. more_arguments (expression c.args.self.now.depth) n c.loop-iteration.found c.loop-iteration.cursor) _ c.loop-iteration._iteration c.loop-iteration-test.true c.loop-iteration.invariant in
    first_of (search rules, grind (arith, common_steps))

pub returns-in_err-skip : goal.returns-in_err-skip
unfolding more_arguments
returns-in_err-skip g c =
    let e = one_more (λ n. more_arguments (expression c.args.self.now.depth) n c.loop-iteration.found c.loop-iteration.cursor) _ c.loop-iteration._iteration c.loop-iteration-test.true c.loop-iteration.invariant in
    first_of (search rules, grind (arith, common_steps))

pub returns-in_err-expr : goal.returns-in_err-expr
unfolding more_arguments
returns-in_err-expr g c =
    let e = one_more (λ n. more_arguments (expression c.args.self.now.depth) n c.loop-iteration.found c.loop-iteration.cursor) _ c.loop-iteration._iteration c.loop-iteration-test.true c.loop-iteration.invariant in
    first_of (search rules, grind (arith, common_steps))

pub loop-iteration-preserved : goal.loop-iteration-preserved
unfolding more_arguments
loop-iteration-preserved g c =
    let e = one_more (λ n. more_arguments (expression c.args.self.now.depth) n c.loop-iteration.found c.loop-iteration.cursor) _ c.loop-iteration._iteration c.loop-iteration-test.true c.loop-iteration.invariant in
    first_of (search rules, grind (arith, common_steps))

pub returns : goal.returns
unfolding more_arguments
returns g c =
    let e = no_more (λ n. more_arguments (expression c.args.self.now.depth) n c.loop-iteration.found c.loop-iteration.cursor) _ c.loop-iteration._iteration c.loop-iteration-test.false c.loop-iteration.invariant in
    first_of (search rules, grind (arith, common_steps))
