-- What is left comes to what the whole comes to.
use Rattle.std.proofs.Common.{◌≡◌, [], length}
use Rattle.pw_tree.specs.Statements.{statements_of}
use Rattle.pw_types.specs.Steps.CheckingStatements.{sequence_at}
use Rattle.pw_types.proofs.statement_walk.Walk.statements.Given as goal

abbrev pub invariant-row : goal.invariant-row
invariant-row l = sequence_at l.fn.setting l.fn.self [] (statements_of l.fn.body) ≡ sequence_at l.fn.setting l.self l.done (statements_of l.rest)

abbrev pub decreases-row : goal.decreases-row
decreases-row l = length l.rest
