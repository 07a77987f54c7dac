-- The faults of the names that are defined are those of the objects.
use Rattle.std.proofs.Common.{subst}
use Rattle.pw_place.specs.Steps.Passing.{Passes}
use Rattle.pw_place.proofs.Faults.{names_fault_is}
use Rattle.pw_place.proofs.refusals.check_definitions.Goals as goal

pub returns : goal.returns
returns c =
    subst (λ fault. Passes fault c.check_names.result)
    (names_fault_is c.args.kind c.args.objects.now c.args.externals.now.entries c.in_ok-names.names c.requires.externals c.in_ok-names.ensures)
    c.check_names.ensures
