-- The answers to the goals of `ExpressionRules::prefix` in `src/expression_rules.rt`.
use Rattle.std.proofs.Common.{◌≡◌, ◌-◌, [], length, rules, arith}
use Rattle.std.proofs.lemmas.Grind.{common_steps}
use Rattle.pw_grammar.specs.Reading.Expressions.{prefix, wrap}
use Rattle.pw_parse.proofs.Wrapping.{counted}
use Rattle.pw_parse.proofs.expression_rules.ExpressionRules.prefix.Goals as goal

pub wrapped-requires : goal.wrapped-requires
wrapped-requires g c =
    let reach = counted c.args.self.now.iterations [] c.args.cursor.now c.in_ok-ops.ops c.operators.new.cursor c.in_ok-ops.ensures in
    omega (arith, reach, c.at-at.ensures)

pub returns : goal.returns
unfolding prefix wrap
returns g c =
    let reach = counted c.args.self.now.iterations [] c.args.cursor.now c.in_ok-ops.ops c.operators.new.cursor c.in_ok-ops.ensures in
    let start : c.at-at.result - length c.in_ok-ops.ops ≡ c.args.cursor.now.at = omega (arith, reach, c.at-at.ensures) in
    first_of (search rules, grind (arith, common_steps))
