-- The typed unit, or the reason.
use Rattle.std.proofs.Common.{ℕ, List, refl, ap, subst}
use Rattle.std.specs.Prelude.{Err}
use Rattle.pw_front.specs.Units.{IsTypedUnitOf, FaultOf}
use Rattle.pw_cmd.specs.Stages.{gave, failed}
use Rattle.pw_cmd.proofs.primitives.compile.Goals as goal

pub returns-in-Ok-clause-compiles : goal.returns-in-Ok-clause-compiles
returns-in-Ok-clause-compiles c =
    let is_unit = subst (λ (text : List ℕ). IsTypedUnitOf text c.in-Ok.unit) c.as_slice.ensures.value c.in-Ok.ensures.unit in
    λ o. gave _ (is_unit, refl) refl

pub returns-in-Err-clause-compiles : goal.returns-in-Err-clause-compiles
returns-in-Err-clause-compiles c =
    let fault = subst (λ (text : List ℕ). FaultOf text c.in-Err.error) c.as_slice.ensures.value c.in-Err.ensures.fault in
    λ o. failed _ (fault, refl) (ap Err c.stop_of_front.ensures)
