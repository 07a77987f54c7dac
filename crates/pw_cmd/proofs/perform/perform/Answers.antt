-- The words, and then their command.
use Rattle.std.proofs.Common.{refl}
use Rattle.std.proofs.lemmas.Result.{err_from_is_err_and}
use Rattle.pw_cmd.specs.Stages.{stopped, went_on}
use Rattle.pw_cmd.proofs.perform.perform.Goals as goal

pub returns-in_err-request : goal.returns-in_err-request
returns-in_err-request g c = λ messages.
    let p = err_from_is_err_and c.from_residual.result c.from_residual.ensures.1 in
    rw (p.1, p.2) (stopped _ (c.in_err-request.ensures.judges _) refl)

pub returns : goal.returns
returns g c = λ messages. went_on _ _ (c.in_ok-request.ensures.judges _) (c.one.ensures messages)
