-- The variables pushed so far are those of the first ones that have no initialiser.
use Rattle.std.proofs.Common.{◌≡◌, ◌++◌, take}
use Rattle.std.specs.List.{filter}
use Rattle.pw_code.specs.Objects.{is_uninitialised}
use Rattle.pw_gen.proofs.variables.push_uninitialised.Given as goal

abbrev pub invariant-loop-x : goal.invariant-loop-x
invariant-loop-x l = l.to ≡ l.fn.to ++ filter is_uninitialised (take l.x-index l.vars)
