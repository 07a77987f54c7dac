-- The symbols so far are appended.
use Rattle.std.proofs.Common.{◌≡◌, ◌++◌, map, take}
use Rattle.std.specs.List.{enumerate_from}
use Rattle.pw_place.specs.Symbols.{function_symbol}
use Rattle.pw_place.proofs.definitions.push_functions.Given as goal

abbrev pub invariant-loop-i : goal.invariant-loop-i
invariant-loop-i l =
    l.to ≡ l.fn.to ++ map (function_symbol l.places.kind l.places.objects.now l.unit) (enumerate_from 0 (take l.i l.functions))
