-- The names so far are those of the first units.
use Rattle.std.proofs.Common.{◌≡◌, map, take}
use Rattle.pw_place.proofs.records.unit_names.Given as goal

abbrev pub invariant-loop-object : goal.invariant-loop-object
invariant-loop-object l = l.names ≡ map (λ o. o.unit) (take l.object-index l.objects)
