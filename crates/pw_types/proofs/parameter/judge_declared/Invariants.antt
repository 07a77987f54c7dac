-- What is left has the faults of the whole.
use Rattle.std.proofs.Common.{◌≡◌, false, [], length}
use Rattle.pw_types.specs.Steps.UnitFaults.{faults_of_parameters}
use Rattle.pw_types.specs.Steps.CheckingDeclarations.{faults_by_number}
use Rattle.pw_types.proofs.parameter.judge_declared.Given as goal

abbrev pub invariant-loop-rest : goal.invariant-loop-rest
invariant-loop-rest l = faults_of_parameters false [] l.fn.params ≡ faults_by_number l.number l.rest

abbrev pub decreases-loop-rest : goal.decreases-loop-rest
decreases-loop-rest l = length l.rest
