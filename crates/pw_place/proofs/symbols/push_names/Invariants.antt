-- The symbols so far are those of the first names.
use Rattle.std.proofs.Common.{◌≡◌, ◌++◌, map, take, Some}
use Rattle.std.specs.List.{enumerate_from}
use Rattle.pw_place.specs.Steps.ExternalSymbols.{symbol_of_name}
use Rattle.pw_place.proofs.symbols.push_names.Given as goal

abbrev pub invariant-loop-number : goal.invariant-loop-number
invariant-loop-number l = l.to ≡ l.fn.to ++ map (λ n. Some (symbol_of_name l.kinds n)) (enumerate_from 0 (take l.number l.names))
