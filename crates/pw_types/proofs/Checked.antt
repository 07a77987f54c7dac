-- What judging a unit answers is what checking it has to answer.
use Rattle.std.proofs.Common.{◌≡◌, [], Some, sym, ap, subst, ◌∙◌}
use Rattle.pw_tree.specs.Declarations.{UntypedUnit}
use Rattle.pw_tree.specs.Proper.{IsRead}
use Rattle.pw_tree.specs.Units.{TypedUnit}
use Rattle.pw_tree.specs.WellTypedUnits.{IsWellTyped}
use Rattle.pw_types.specs.declared.fault.Fault.{Fault}
use Rattle.pw_types.specs.Faults.{first_of}
use Rattle.pw_types.specs.Nests.{faults_of}
use Rattle.pw_types.specs.Checks.{IsTyped}
use Rattle.pw_types.specs.Steps.UnitFaults.{faults_in_order}
use Rattle.pw_types.specs.Steps.CheckingUnits.{unit_by_number}
use Rattle.pw_types.proofs.Empty.{left_empty}
use Rattle.pw_types.proofs.AscendingFaults.{faults_are}
use Rattle.pw_types.proofs.NotedUnits.{typed_unit_is}
use Rattle.pw_types.proofs.WellTyped.{units_without_faults_are_well_typed}

pub first_is_first : (u : UntypedUnit) (f : Fault) → first_of (faults_in_order u) ≡ Some f → first_of (faults_of u) ≡ Some f
first_is_first u f first = ap first_of (faults_are u) ∙ first

pub judged_is_typed : (u : UntypedUnit) (typed : TypedUnit) → IsRead u → faults_in_order u ≡ [] → typed ≡ unit_by_number u →
    IsTyped u typed
judged_is_typed u typed read none is = record {
  no_fault = faults_are u ∙ none;
  is = is ∙ typed_unit_is u read (left_empty _ _ none);
}

pub judged_is_well_typed : (u : UntypedUnit) (typed : TypedUnit) → IsRead u → faults_in_order u ≡ [] →
    typed ≡ unit_by_number u → IsWellTyped typed
judged_is_well_typed u typed read none is =
    let t = judged_is_typed u typed read none is in
    subst IsWellTyped (sym t.is) (units_without_faults_are_well_typed u read t.no_fault)
