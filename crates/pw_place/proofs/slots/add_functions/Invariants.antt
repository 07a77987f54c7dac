-- The names of the functions so far have joined.
use Rattle.std.proofs.Common.{◌≡◌, take, fold}
use Rattle.pw_place.specs.Steps.NameLists.{function_joined}
use Rattle.pw_place.proofs.slots.add_functions.Given as goal

abbrev pub invariant-loop-f : goal.invariant-loop-f
invariant-loop-f l = l.names ≡ fold function_joined l.fn.names (take l.f-index l.funs)
