-- The names of the objects so far are defined.
use Rattle.std.proofs.Common.{◌≡◌, take, fold}
use Rattle.pw_place.specs.Steps.DefinedNames.{unit_defined, no_names}
use Rattle.pw_place.proofs.defined_names.defined_names.Given as goal

abbrev pub invariant-loop-object : goal.invariant-loop-object
invariant-loop-object l = l.names ≡ fold unit_defined no_names (take l.object-index l.objects)
