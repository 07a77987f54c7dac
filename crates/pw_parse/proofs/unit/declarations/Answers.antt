-- The answers to the goals of `declarations` in `src/unit.rt`.
use Rattle.std.proofs.Common.{rules, arith}
use Rattle.std.proofs.lemmas.Grind.{common_steps}
use Rattle.pw_grammar.specs.Reading.Expressions.{expression}
use Rattle.pw_grammar.specs.Reading.Statements.{statement}
use Rattle.pw_grammar.specs.Reading.Declarations.{declaration, declarations}
use Rattle.pw_parse.proofs.Iterations.{one_more, no_more}
use Rattle.pw_parse.proofs.unit.declarations.Goals as goal

pub returns-then-sees : goal.returns-then-sees
unfolding declarations
returns-then-sees c =
    let e = one_more (λ n. declarations (declaration (expression c.args.depth) (statement c.args.depth) c.args.depth) n c.loop-iteration.found c.loop-iteration.cursor) _ c.loop-iteration._iteration c.loop-iteration-test.true c.loop-iteration.invariant in
    first_of (search rules, grind (arith, common_steps))

pub returns-in_err-declaration : goal.returns-in_err-declaration
unfolding declarations
returns-in_err-declaration c =
    let e = one_more (λ n. declarations (declaration (expression c.args.depth) (statement c.args.depth) c.args.depth) n c.loop-iteration.found c.loop-iteration.cursor) _ c.loop-iteration._iteration c.loop-iteration-test.true c.loop-iteration.invariant in
    first_of (search rules, grind (arith, common_steps))

pub loop-iteration-preserved : goal.loop-iteration-preserved
unfolding declarations
loop-iteration-preserved c =
    let e = one_more (λ n. declarations (declaration (expression c.args.depth) (statement c.args.depth) c.args.depth) n c.loop-iteration.found c.loop-iteration.cursor) _ c.loop-iteration._iteration c.loop-iteration-test.true c.loop-iteration.invariant in
    first_of (search rules, grind (arith, common_steps))

pub returns : goal.returns
unfolding declarations
returns c =
    let e = no_more (λ n. declarations (declaration (expression c.args.depth) (statement c.args.depth) c.args.depth) n c.loop-iteration.found c.loop-iteration.cursor) _ c.loop-iteration._iteration c.loop-iteration-test.false c.loop-iteration.invariant in
    first_of (search rules, grind (arith, common_steps))
