-- Those so far are counted.
use Rattle.std.proofs.Common.{◌≡◌, ◌+◌, drop}
use Rattle.pw_place.specs.Places.{variables, uninitialised_size}
use Rattle.pw_place.proofs.data.all_zeros.Given as goal

abbrev pub invariant-loop-object : goal.invariant-loop-object
invariant-loop-object l =
    l.total + uninitialised_size (variables (drop l.object-index l.objects)) ≡ uninitialised_size (variables l.objects)
