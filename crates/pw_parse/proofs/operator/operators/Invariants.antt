-- What is left to read gives what the whole gives.
use Rattle.std.proofs.Common.{◌≡◌, ◌-◌, []}
use Rattle.pw_grammar.specs.Reading.Expressions.{operators}
use Rattle.pw_parse.proofs.operator.operators.Given as goal

abbrev pub invariant-loop-iteration : goal.invariant-loop-iteration
invariant-loop-iteration l = operators l.iterations [] l.fn.cursor ≡ operators (l.iterations - l._iteration) l.found l.cursor
