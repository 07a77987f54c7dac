-- The names of the slots so far are there.
use Rattle.std.proofs.Common.{◌≡◌, take}
use Rattle.pw_place.proofs.merging.slot_names.Given as goal

abbrev pub invariant-loop-n : goal.invariant-loop-n
invariant-loop-n l = l.names ≡ take l.n l.places.slots
