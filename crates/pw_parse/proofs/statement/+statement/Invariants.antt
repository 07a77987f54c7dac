-- The statement that is still to be read, inside the heads that were read, is the whole.
use Rattle.std.proofs.Common.{◌≡◌, ◌≤◌, length}
use Rattle.pw_grammar.specs.Reading.Statements.{statement}
use Rattle.pw_parse.specs.Steps.Nesting.{unread}
use Rattle.pw_parse.proofs.statement.+statement.Given as goal

abbrev pub decreases-statement : goal.decreases-statement
decreases-statement l = l.depth

abbrev pub invariant-inward : goal.invariant-inward
invariant-inward l = (statement l.depth l.fn.cursor ≡ unread l.depth l.heads l.cursor) × (length l.heads ≤ l.depth)

abbrev pub decreases-inward : goal.decreases-inward
decreases-inward l = length l.cursor.rest
