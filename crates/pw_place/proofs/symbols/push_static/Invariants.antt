-- The symbols so far are those of the first static definitions.
use Rattle.std.proofs.Common.{◌≡◌, ◌++◌, map, take, Some}
use Rattle.std.specs.Prelude.{not}
use Rattle.std.specs.List.{filter}
use Rattle.pw_place.proofs.symbols.push_static.Given as goal

abbrev pub invariant-loop-s : goal.invariant-loop-s
invariant-loop-s l = l.to ≡ l.fn.to ++ map Some (filter (λ s. not s.global) (take l.s-index l.defined))
