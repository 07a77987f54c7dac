-- The names of the entry and of the objects so far have joined.
use Rattle.std.proofs.Common.{◌≡◌, [], take, fold}
use Rattle.pw_place.specs.Sizes.{entry_items}
use Rattle.pw_place.specs.Steps.NameLists.{code_joined, object_joined}
use Rattle.pw_place.proofs.slots.slot_names.Given as goal

abbrev pub invariant-loop-object : goal.invariant-loop-object
invariant-loop-object l =
    l.names ≡ fold object_joined (code_joined [] (entry_items l.fn.kind)) (take l.object-index l.objects)
