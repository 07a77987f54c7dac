-- What is still to be done comes to what the whole statement comes to.
use Rattle.std.proofs.Common.{◌≡◌, ◌+◌, reverse}
use Rattle.pw_tree.specs.Statements.{statement_of}
use Rattle.pw_types.specs.Steps.CheckingStatements.{outcome_at, of_step, resume}
use Rattle.pw_types.specs.Steps.StatementWeights.{weight_of_frames, weight_of_step}
use Rattle.pw_types.proofs.statement_walk.Walk.statement.Given as goal

abbrev pub invariant-parts : goal.invariant-parts
invariant-parts l = outcome_at l.fn.setting l.fn.self (statement_of l.fn.stmt) ≡ resume (reverse l.frames) (of_step l.step l.self)

abbrev pub decreases-parts : goal.decreases-parts
decreases-parts l = weight_of_frames l.frames + weight_of_step l.step
