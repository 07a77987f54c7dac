-- The relocations of the slots so far are appended.
use Rattle.std.proofs.Common.{◌≡◌, ◌++◌, map, take}
use Rattle.std.specs.List.{enumerate_from}
use Rattle.pw_place.specs.Places.{slot_names}
use Rattle.pw_place.specs.Contents.{slot_relocation}
use Rattle.pw_place.proofs.relocations.push_slots.Given as goal

abbrev pub invariant-loop-n : goal.invariant-loop-n
invariant-loop-n l =
    let kind = l.numbers.places.now.kind in
    let objects = l.numbers.places.now.objects.now in
    l.to ≡ l.fn.to ++ map (slot_relocation kind objects) (enumerate_from 0 (take l.n (slot_names kind objects)))
