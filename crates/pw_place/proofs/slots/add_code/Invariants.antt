-- The names of the items so far have joined.
use Rattle.std.proofs.Common.{◌≡◌, take}
use Rattle.pw_place.specs.Steps.NameLists.{code_joined}
use Rattle.pw_place.proofs.slots.add_code.Given as goal

abbrev pub invariant-loop-item : goal.invariant-loop-item
invariant-loop-item l = l.names ≡ code_joined l.fn.names (take l.item-index l.items)
