-- Resuming the frames after what is to be done next gives what the whole gives.
use Rattle.std.proofs.Common.{◌≡◌, ◌+◌}
use Rattle.pw_tree.specs.Expressions.{expression_of}
use Rattle.pw_types.specs.Steps.CheckingExpressions.{checked}
use Rattle.pw_types.specs.Steps.ResumingExpressions.{resume, continued, step_size, frames_size}
use Rattle.pw_types.proofs.expression.walk.Given as goal

abbrev pub invariant-steps : goal.invariant-steps
invariant-steps l =
    checked l.scope l.fn.role (expression_of l.fn.e) l.fn.used.items ≡ resume l.scope l.frames (continued l.scope l.step l.used.items)

abbrev pub decreases-steps : goal.decreases-steps
decreases-steps l = frames_size l.frames + step_size l.step
