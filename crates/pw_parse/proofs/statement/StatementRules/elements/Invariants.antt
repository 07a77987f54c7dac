-- What is left to read gives what the whole gives.
use Rattle.std.proofs.Common.{◌≡◌, ◌-◌, []}
use Rattle.pw_grammar.specs.Reading.Expressions.{expression}
use Rattle.pw_grammar.specs.Reading.Statements.{statement, elements}
use Rattle.pw_parse.proofs.statement.StatementRules.elements.Given as goal

abbrev pub invariant-loop-iteration : goal.invariant-loop-iteration
invariant-loop-iteration g l =
    elements (expression l.self.depth) (statement l.self.inner) l.self.depth [] l.fn.cursor
    ≡ elements (expression l.self.depth) (statement l.self.inner) (l._iteration-end - l._iteration) l.found l.cursor
