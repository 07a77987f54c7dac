-- What is left has the faults of the whole, and gives its locals.
use Rattle.std.proofs.Common.{◌≡◌, true, [], length}
use Rattle.pw_tree.specs.Placed.{HaveNames}
use Rattle.pw_types.specs.Declarations.{locals_of}
use Rattle.pw_types.specs.Steps.UnitFaults.{faults_of_parameters}
use Rattle.pw_types.proofs.parameter.judge_defined.Given as goal

abbrev pub invariant-loop-rest : goal.invariant-loop-rest
invariant-loop-rest l = record {
  names : HaveNames l.rest;
  faults : faults_of_parameters true [] l.fn.params ≡ faults_of_parameters true l.locals.items l.rest;
  locals : locals_of [] l.fn.params ≡ locals_of l.locals.items l.rest;
}

abbrev pub decreases-loop-rest : goal.decreases-loop-rest
decreases-loop-rest l = length l.rest
