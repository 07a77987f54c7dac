-- The places of the functions so far, and where the next ones stand.
use Rattle.std.proofs.Common.{◌≡◌, take, fold}
use Rattle.pw_place.specs.Steps.Running.{running, function_place, after_function}
use Rattle.pw_place.proofs.placing.function_places.Given as goal

abbrev pub invariant-loop-f : goal.invariant-loop-f
invariant-loop-f l = record {
  places : l.places ≡ running function_place after_function l.fn.next (take l.f-index l.funs);
  next : l.next ≡ fold after_function l.fn.next (take l.f-index l.funs);
}
