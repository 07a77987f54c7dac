-- The answers to the goals of `ExpressionRules::suffixes` in `src/expression_rules.rt`.
use Rattle.std.proofs.Common.{rules, arith}
use Rattle.std.proofs.lemmas.Grind.{common_steps}
use Rattle.pw_grammar.specs.Reading.Expressions.{expression, suffixes}
use Rattle.pw_parse.proofs.Iterations.{one_more, no_more}
use Rattle.pw_parse.proofs.expression_rules.ExpressionRules.suffixes.Goals as goal
use Rattle.pw_parse.proofs.expression_rules.ExpressionRules.suffixes.Goals.{then-sees+in_ok-left, else-sees+then-sees-2+in_ok-left-2}

pub returns-in_err-left : goal.returns-in_err-left
unfolding suffixes
returns-in_err-left g c =
    let e = one_more (λ n. suffixes (expression c.args.self.now.depth) c.args.self.now.iterations n c.args.first c.loop-iteration.left c.loop-iteration.cursor) _ c.loop-iteration._iteration c.loop-iteration-test.true c.loop-iteration.invariant in
    first_of (search rules, grind (arith, common_steps))

pub returns-in_err-left-2 : goal.returns-in_err-left-2
unfolding suffixes
returns-in_err-left-2 g c =
    let e = one_more (λ n. suffixes (expression c.args.self.now.depth) c.args.self.now.iterations n c.args.first c.loop-iteration.left c.loop-iteration.cursor) _ c.loop-iteration._iteration c.loop-iteration-test.true c.loop-iteration.invariant in
    first_of (search rules, grind (arith, common_steps))

pub returns-else-sees-2 : goal.returns-else-sees-2
unfolding suffixes
returns-else-sees-2 g c =
    let e = one_more (λ n. suffixes (expression c.args.self.now.depth) c.args.self.now.iterations n c.args.first c.loop-iteration.left c.loop-iteration.cursor) _ c.loop-iteration._iteration c.loop-iteration-test.true c.loop-iteration.invariant in
    first_of (search rules, grind (arith, common_steps))

pub loop-iteration-preserved : goal.loop-iteration-preserved
unfolding suffixes
loop-iteration-preserved g c =
    let e = one_more (λ n. suffixes (expression c.args.self.now.depth) c.args.self.now.iterations n c.args.first c.loop-iteration.left c.loop-iteration.cursor) _ c.loop-iteration._iteration c.loop-iteration-test.true c.loop-iteration.invariant in
    elim c.if-sees.branch [ then-sees+in_ok-left w ↦ first_of (search rules, grind (arith, common_steps)) | else-sees+then-sees-2+in_ok-left-2 w ↦ first_of (search rules, grind (arith, common_steps)) ]

pub returns : goal.returns
unfolding suffixes
returns g c =
    let e = no_more (λ n. suffixes (expression c.args.self.now.depth) c.args.self.now.iterations n c.args.first c.loop-iteration.left c.loop-iteration.cursor) _ c.loop-iteration._iteration c.loop-iteration-test.false c.loop-iteration.invariant in
    first_of (search rules, grind (arith, common_steps))
