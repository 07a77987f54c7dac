-- What the answers show.
use Rattle.pw_cmd.proofs.Calls.{calls}
use Rattle.pw_cmd.proofs.Completes.{completes}
use Rattle.pw_cmd.proofs.Failures.{failures}
use Rattle.pw_cmd.proofs.Refusing.{refuses}
use Rattle.pw_cmd.proofs.ShowsMeaning.{means}
use Rattle.pw_cmd.proofs.commands.top.Goals as goal

pub returns-clause-answers : goal.returns-clause-answers
returns-clause-answers g c =
    record { answer = c.perform-answer.result; performed = c.perform-answer.ensures _; reported = c.report-status.ensures }

pub returns-clause-means : goal.returns-clause-means
returns-clause-means g c = means _ _ _ _ (returns-clause-answers g c)

pub returns-clause-failures : goal.returns-clause-failures
returns-clause-failures g c = failures _ _ _ _ (returns-clause-answers g c)

pub returns-clause-completes : goal.returns-clause-completes
returns-clause-completes g c = completes _ _ _ _ (returns-clause-answers g c)

pub returns-clause-refuses : goal.returns-clause-refuses
returns-clause-refuses g c = refuses _ _ _ _ (returns-clause-answers g c)

pub returns-clause-calls : goal.returns-clause-calls
returns-clause-calls g c = calls _ _ _ _ (returns-clause-answers g c)
