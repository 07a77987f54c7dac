-- The places of the units so far, and where the next ones stand.
use Rattle.std.proofs.Common.{◌≡◌, take, fold}
use Rattle.pw_place.specs.Steps.Running.{running, places_of_unit, after_unit}
use Rattle.pw_place.proofs.placing.all_places.Given as goal

abbrev pub invariant-loop-object : goal.invariant-loop-object
invariant-loop-object l = record {
  places : l.units ≡ running places_of_unit after_unit l.fn.start (take l.object-index l.objects);
  next : l.next ≡ fold after_unit l.fn.start (take l.object-index l.objects);
}
