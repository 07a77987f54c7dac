-- What is left to read gives what the whole gives.
use Rattle.std.proofs.Common.{◌≡◌, ◌-◌, []}
use Rattle.pw_grammar.specs.Reading.Expressions.{expression}
use Rattle.pw_grammar.specs.Reading.Statements.{statement}
use Rattle.pw_grammar.specs.Reading.Declarations.{declaration, declarations}
use Rattle.pw_parse.proofs.unit.declarations.Given as goal

abbrev pub invariant-loop-iteration : goal.invariant-loop-iteration
invariant-loop-iteration l =
    declarations (declaration (expression l.depth) (statement l.depth) l.depth) l.depth [] l.fn.cursor
    ≡ declarations (declaration (expression l.depth) (statement l.depth) l.depth) (l.depth - l._iteration) l.found l.cursor
