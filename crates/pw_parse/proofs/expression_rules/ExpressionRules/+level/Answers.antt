-- The answers to the goals of `ExpressionRules::+level` in `src/expression_rules.rt`.
use Rattle.std.proofs.Common.{◌-◌, rules, arith}
use Rattle.std.proofs.lemmas.Grind.{common_steps}
use Rattle.pw_grammar.specs.Reading.Expressions.{expression, level, chain}
use Rattle.pw_parse.proofs.Iterations.{one_more, no_more}
use Rattle.pw_parse.proofs.Levels.{looser, tightest}
use Rattle.pw_parse.proofs.expression_rules.ExpressionRules.+level.Goals as goal

pub returns-then-level-le2 : goal.returns-then-level-le2
returns-then-level-le2 g t c =
    let e = tightest (expression c.args.self.now.depth) c.args.self.now.iterations c.args.level c.args.cursor.now (omega arith) in
    first_of (search rules, grind (arith, common_steps))

pub returns-in_err-left : goal.returns-in_err-left
returns-in_err-left g t c =
    let e = looser (expression c.args.self.now.depth) c.args.self.now.iterations c.args.level c.args.cursor.now (omega arith) in
    first_of (search rules, grind (arith, common_steps))

pub loop-iteration-init : goal.loop-iteration-init
loop-iteration-init g t c =
    let e = looser (expression c.args.self.now.depth) c.args.self.now.iterations c.args.level c.args.cursor.now (omega arith) in
    first_of (search rules, grind (arith, common_steps))

pub returns-in_err-binary_operator : goal.returns-in_err-binary_operator
unfolding chain
returns-in_err-binary_operator g t c =
    let e = one_more (λ n. chain c.args.level (level (expression c.args.self.now.depth) c.args.self.now.iterations (c.args.level - 1 - 2)) n c.at-first.result c.loop-iteration.left c.loop-iteration.cursor) _ c.loop-iteration._iteration c.loop-iteration-test.true c.loop-iteration.invariant in
    first_of (search rules, grind (arith, common_steps))

pub returns-in-None : goal.returns-in-None
unfolding chain
returns-in-None g t c =
    let e = one_more (λ n. chain c.args.level (level (expression c.args.self.now.depth) c.args.self.now.iterations (c.args.level - 1 - 2)) n c.at-first.result c.loop-iteration.left c.loop-iteration.cursor) _ c.loop-iteration._iteration c.loop-iteration-test.true c.loop-iteration.invariant in
    first_of (search rules, grind (arith, common_steps))

pub returns-in_err-right-in-Some : goal.returns-in_err-right-in-Some
unfolding chain
returns-in_err-right-in-Some g t c =
    let e = one_more (λ n. chain c.args.level (level (expression c.args.self.now.depth) c.args.self.now.iterations (c.args.level - 1 - 2)) n c.at-first.result c.loop-iteration.left c.loop-iteration.cursor) _ c.loop-iteration._iteration c.loop-iteration-test.true c.loop-iteration.invariant in
    first_of (search rules, grind (arith, common_steps))

pub loop-iteration-preserved : goal.loop-iteration-preserved
unfolding chain
loop-iteration-preserved g t c =
    let e = one_more (λ n. chain c.args.level (level (expression c.args.self.now.depth) c.args.self.now.iterations (c.args.level - 1 - 2)) n c.at-first.result c.loop-iteration.left c.loop-iteration.cursor) _ c.loop-iteration._iteration c.loop-iteration-test.true c.loop-iteration.invariant in
    first_of (search rules, grind (arith, common_steps))

pub returns : goal.returns
unfolding chain
returns g t c =
    let e = no_more (λ n. chain c.args.level (level (expression c.args.self.now.depth) c.args.self.now.iterations (c.args.level - 1 - 2)) n c.at-first.result c.loop-iteration.left c.loop-iteration.cursor) _ c.loop-iteration._iteration c.loop-iteration-test.false c.loop-iteration.invariant in
    first_of (search rules, grind (arith, common_steps))
