-- The first items are as in the object, the others as they were.
use Rattle.std.proofs.Common.{◌≡◌, ◌++◌, map, take, drop}
use Rattle.pw_code.specs.Objects.{item_in_order}
use Rattle.pw_gen.proofs.numbers.renumber.Given as goal

abbrev pub invariant-loop-item : goal.invariant-loop-item
invariant-loop-item l =
    l.items ≡ map (item_in_order l.vars) (take l.item-index l.initial.items) ++ drop l.item-index l.initial.items
