-- The names of the functions so far are defined.
use Rattle.std.proofs.Common.{◌≡◌, take, fold}
use Rattle.pw_place.specs.Steps.DefinedNames.{function_defined}
use Rattle.pw_place.proofs.defined_names.define_functions.Given as goal

abbrev pub invariant-loop-f : goal.invariant-loop-f
invariant-loop-f l = l.names ≡ fold function_defined l.fn.names (take l.f-index l.funs)
