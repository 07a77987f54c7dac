-- The laws of calls and of whole runs.
use Rattle.std.proofs.Common.{◌≤◌, arith}
use Rattle.std.specs.Prelude.{ℕ, ◌+◌, ◌*◌}
use Rattle.pw_tree.specs.Meaning.{meaning}
use Rattle.pw_simulation.specs.Programs.{CallsAreMeant, TheRunIsTheMeaning}
use Rattle.pw_simulation.specs.AnyRuns.{LimitedRunsAreMeant}
use Rattle.pw_simulation.proofs.Statements.{statements_run}
use Rattle.pw_simulation.proofs.Calls.{calls_run}
use Rattle.pw_simulation.proofs.Runs.{runs, begins_as_meant}

pub calls_are_meant : CallsAreMeant
calls_are_meant w n sees runnable = calls_run w sees runnable statements_run n

pub the_run_is_the_meaning : TheRunIsTheMeaning
the_run_is_the_meaning w input bound limit s sees runnable start enough =
    runs w sees runnable input bound s start (calls_are_meant w bound sees runnable) limit enough

pub limited_runs_are_meant : LimitedRunsAreMeant
limited_runs_are_meant w input bound k s sees runnable start below e =
    let limit : ℕ = (bound + 1) * w.words in
    let whole : limit ≤ limit = omega arith in
    begins_as_meant w (meaning w.project input bound) bound k limit s below e (the_run_is_the_meaning w input bound limit s sees runnable start whole)
