-- The pointers so far are appended.
use Rattle.std.proofs.Common.{◌≡◌, ◌++◌, map, take}
use Rattle.std.specs.List.{flat_map, enumerate_from}
use Rattle.pw_place.specs.Contents.{pointers_in_element}
use Rattle.pw_place.specs.Steps.PointerPlaces.{pointer_of}
use Rattle.pw_place.proofs.pointers.push_values.Given as goal

abbrev pub invariant-loop-j : goal.invariant-loop-j
invariant-loop-j l =
    map pointer_of l.to ≡ map pointer_of l.fn.to ++ flat_map (pointers_in_element l.unit l.variable l.start) (enumerate_from 0 (take l.j l.values))
