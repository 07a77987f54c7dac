-- What is left to read gives what the whole gives.
use Rattle.std.proofs.Common.{◌≡◌, ◌-◌}
use Rattle.pw_grammar.specs.Reading.Expressions.{expression, level, chain}
use Rattle.pw_parse.proofs.expression_rules.ExpressionRules.+level.Given as goal

abbrev pub decreases-level : goal.decreases-level
decreases-level g l = l.level

abbrev pub invariant-loop-iteration : goal.invariant-loop-iteration
invariant-loop-iteration g l =
    level (expression l.self.depth) l.self.iterations (l.level - 2) l.fn.cursor
    ≡ chain l.level (level (expression l.self.depth) l.self.iterations (l.level - 1 - 2)) (l._iteration-end - l._iteration) l.first l.left l.cursor
