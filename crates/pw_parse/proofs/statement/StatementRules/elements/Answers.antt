-- The answers to the goals of `StatementRules::elements` in `src/statement.rt`.
use Rattle.std.proofs.Common.{rules, arith}
use Rattle.std.proofs.lemmas.Grind.{common_steps}
use Rattle.pw_grammar.specs.Reading.Expressions.{expression}
use Rattle.pw_grammar.specs.Reading.Statements.{statement, elements}
use Rattle.pw_parse.proofs.Iterations.{one_more, no_more}
use Rattle.pw_parse.proofs.statement.StatementRules.elements.Goals as goal

pub returns-then-sees : goal.returns-then-sees
unfolding elements
returns-then-sees g c =
    let e = one_more (λ n. elements (expression c.args.self.now.depth) (statement c.args.self.now.inner) n c.loop-iteration.found c.loop-iteration.cursor) _ c.loop-iteration._iteration c.loop-iteration-test.true c.loop-iteration.invariant in
    first_of (search rules, grind (arith, common_steps))

pub returns-in_err-element : goal.returns-in_err-element
unfolding elements
returns-in_err-element g c =
    let e = one_more (λ n. elements (expression c.args.self.now.depth) (statement c.args.self.now.inner) n c.loop-iteration.found c.loop-iteration.cursor) _ c.loop-iteration._iteration c.loop-iteration-test.true c.loop-iteration.invariant in
    first_of (search rules, grind (arith, common_steps))

pub loop-iteration-preserved : goal.loop-iteration-preserved
unfolding elements
loop-iteration-preserved g c =
    let e = one_more (λ n. elements (expression c.args.self.now.depth) (statement c.args.self.now.inner) n c.loop-iteration.found c.loop-iteration.cursor) _ c.loop-iteration._iteration c.loop-iteration-test.true c.loop-iteration.invariant in
    first_of (search rules, grind (arith, common_steps))

pub returns : goal.returns
unfolding elements
returns g c =
    let e = no_more (λ n. elements (expression c.args.self.now.depth) (statement c.args.self.now.inner) n c.loop-iteration.found c.loop-iteration.cursor) _ c.loop-iteration._iteration c.loop-iteration-test.false c.loop-iteration.invariant in
    first_of (search rules, grind (arith, common_steps))
