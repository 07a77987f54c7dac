-- The fault of the counts, or else of the definitions, is that of the link.
use Rattle.std.proofs.Common.{rules, sym, subst, ◌∙◌}
use Rattle.std.specs.Option.{option_or}
use Rattle.pw_place.specs.Steps.Passing.{Passes, count_fault, definitions_fault}
use Rattle.pw_place.proofs.Faults.{faults_are}
use Rattle.pw_place.proofs.merging.checked.Goals as goal

pub returns-in_err-check-clause-fault : goal.returns-in_err-check-clause-fault
returns-in_err-check-clause-fault c =
    let kind = c.args.kind in
    let objects = c.args.objects.now in
    let passes : Passes (option_or (count_fault kind objects) (definitions_fault kind objects)) c.from_residual-in_err-check.result = search rules in
    subst (λ fault. Passes fault c.from_residual-in_err-check.result) (faults_are kind objects) passes

pub returns-clause-fault : goal.returns-clause-fault
returns-clause-fault c = sym (faults_are c.args.kind c.args.objects.now) ∙ c.in_ok-check.ensures
