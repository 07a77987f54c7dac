-- The places of the variables so far, and where the next ones stand.
use Rattle.std.proofs.Common.{◌≡◌, take, fold}
use Rattle.pw_place.specs.Steps.Running.{running, variable_place, after_variable}
use Rattle.pw_place.proofs.placing.variable_places.Given as goal

abbrev pub invariant-loop-x : goal.invariant-loop-x
invariant-loop-x l = record {
  places : l.places ≡ running variable_place after_variable l.fn.next (take l.x-index l.vars);
  next : l.next ≡ fold after_variable l.fn.next (take l.x-index l.vars);
}
