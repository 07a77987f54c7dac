-- What is left to read gives what the whole gives.
use Rattle.std.proofs.Common.{◌≡◌, ◌-◌}
use Rattle.pw_grammar.specs.Reading.Expressions.{expression, suffixes}
use Rattle.pw_parse.proofs.expression_rules.ExpressionRules.suffixes.Given as goal

abbrev pub invariant-loop-iteration : goal.invariant-loop-iteration
invariant-loop-iteration g l =
    suffixes (expression l.self.depth) l.self.iterations l.self.iterations l.first l.fn.left l.fn.cursor
    ≡ suffixes (expression l.self.depth) l.self.iterations (l._iteration-end - l._iteration) l.first l.left l.cursor
