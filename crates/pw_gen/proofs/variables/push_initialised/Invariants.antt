-- The variables pushed so far are those of the first ones that have an initialiser.
use Rattle.std.proofs.Common.{◌≡◌, ◌++◌, map, take}
use Rattle.std.specs.List.{filter}
use Rattle.pw_code.specs.Objects.{is_initialised, filled}
use Rattle.pw_gen.proofs.variables.push_initialised.Given as goal

abbrev pub invariant-loop-x : goal.invariant-loop-x
invariant-loop-x l = l.to ≡ l.fn.to ++ map filled (filter is_initialised (take l.x-index l.vars))
