-- What is left to read gives what the whole gives.
use Rattle.std.proofs.Common.{◌≡◌, ◌-◌}
use Rattle.pw_grammar.specs.Reading.Expressions.{expression, more_arguments}
use Rattle.pw_parse.proofs.expression_rules.ExpressionRules.more_arguments.Given as goal

abbrev pub invariant-loop-iteration : goal.invariant-loop-iteration
invariant-loop-iteration g l =
    more_arguments (expression l.self.depth) l.self.iterations l.fn.found l.fn.cursor
    ≡ more_arguments (expression l.self.depth) (l._iteration-end - l._iteration) l.found l.cursor
