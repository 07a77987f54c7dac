-- What is left has the faults of the whole, and gives what is missing of its values and uses.
use Rattle.std.proofs.Common.{◌≡◌, ◌++◌, length}
use Rattle.pw_types.specs.Steps.UnitFaults.{faults_of_elements}
use Rattle.pw_types.specs.Steps.Uses.{uses_of_elements}
use Rattle.pw_types.specs.Units.{elements_in}
use Rattle.pw_types.proofs.initialiser.judge_elements.Given as goal

abbrev pub invariant-loop-rest : goal.invariant-loop-rest
invariant-loop-rest l = record {
  faults : faults_of_elements l.scope l.ty l.room 0 l.items ≡ faults_of_elements l.scope l.ty l.room (length l.values) l.rest;
  values : elements_in l.scope l.items ≡ l.values ++ elements_in l.scope l.rest;
  used : l.initial.used.items ++ uses_of_elements l.scope l.items ≡ l.used.items ++ uses_of_elements l.scope l.rest;
}

abbrev pub decreases-loop-rest : goal.decreases-loop-rest
decreases-loop-rest l = length l.rest
