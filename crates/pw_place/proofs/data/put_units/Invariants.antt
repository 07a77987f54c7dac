-- Those so far are appended.
use Rattle.std.proofs.Common.{◌≡◌, ◌++◌, take}
use Rattle.std.specs.List.{flat_map}
use Rattle.pw_place.specs.Places.{variables}
use Rattle.pw_place.specs.Contents.{variable_content}
use Rattle.pw_place.proofs.data.put_units.Given as goal

abbrev pub invariant-loop-object : goal.invariant-loop-object
invariant-loop-object l =
    l.to.items ≡ l.fn.to.items ++ flat_map variable_content (variables (take l.object-index l.objects))
