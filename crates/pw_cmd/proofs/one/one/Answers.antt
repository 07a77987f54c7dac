-- The file, its unit, the image, and the run.
use Rattle.std.proofs.Common.{refl}
use Rattle.std.proofs.lemmas.Result.{err_from_is_err_and}
use Rattle.pw_cmd.specs.Stages.{stopped, went_on}
use Rattle.pw_cmd.proofs.one.one.Goals as goal

pub returns-in_err-text : goal.returns-in_err-text
returns-in_err-text g c = λ messages.
    let p = err_from_is_err_and c.from_residual.result c.from_residual.ensures.1 in
    rw (p.1, p.2) (stopped _ (c.in_err-text.ensures.reads _ _ _ _) refl)

pub returns-in_err-unit : goal.returns-in_err-unit
returns-in_err-unit g c = λ messages.
    let p = err_from_is_err_and c.from_residual-in_err-unit.result c.from_residual-in_err-unit.ensures.1 in
    rw (p.1, p.2) (went_on _ _ (c.in_ok-text.ensures.reads _ _ _ _) (stopped _ (c.in_err-unit.ensures.compiles _) refl))

pub returns-in_err-rows : goal.returns-in_err-rows
returns-in_err-rows g c = λ messages.
    let p = err_from_is_err_and c.from_residual-in_err-rows.result c.from_residual-in_err-rows.ensures.1 in
    rw (p.1, p.2) (went_on _ _ (c.in_ok-text.ensures.reads _ _ _ _) (went_on _ _ (c.in_ok-unit.ensures.compiles _)
    (stopped _ (c.in_err-rows.ensures.builds _ _ _ _) refl)))

pub run_image-requires-clause-built : goal.run_image-requires-clause-built
run_image-requires-clause-built g c = (_, c.in_ok-rows.ensures.built)

pub returns : goal.returns
returns g c = λ messages.
    went_on _ _ (c.in_ok-text.ensures.reads _ _ _ _) (went_on _ _ (c.in_ok-unit.ensures.compiles _)
    (went_on _ _ (c.in_ok-rows.ensures.builds _ _ _ _) (c.run_image.ensures _ messages)))
