-- The names of the variables so far are defined.
use Rattle.std.proofs.Common.{◌≡◌, take, fold}
use Rattle.pw_place.specs.Steps.DefinedNames.{variable_defined}
use Rattle.pw_place.proofs.defined_names.define_variables.Given as goal

abbrev pub invariant-loop-x : goal.invariant-loop-x
invariant-loop-x l = l.names ≡ fold variable_defined l.fn.names (take l.x-index l.vars)
