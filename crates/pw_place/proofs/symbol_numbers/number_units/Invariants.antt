-- The numbers so far, and those that follow from the next number on, are all.
use Rattle.std.proofs.Common.{◌≡◌, ◌+◌, ◌++◌, take, drop}
use Rattle.pw_place.specs.Symbols.{static_definitions}
use Rattle.pw_place.specs.Steps.NumberLists.{all_numbers}
use Rattle.pw_place.proofs.symbol_numbers.number_units.Given as goal

abbrev pub invariant-loop-object : goal.invariant-loop-object
invariant-loop-object l = record {
  numbers : l.units ++ all_numbers l.next (drop l.object-index l.objects) ≡ all_numbers l.fn.first l.objects;
  next : l.next ≡ l.fn.first + static_definitions (take l.object-index l.objects);
}
