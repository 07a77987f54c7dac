-- The objects made so far are those of the first functions, and those that are left are of a unit too.
use Rattle.std.proofs.Common.{◌≡◌, map, take, drop}
use Rattle.pw_tree.specs.Units.{typed_function_of}
use Rattle.pw_code.specs.Objects.{function_object}
use Rattle.pw_gen.specs.Steps.Functions.{AreOfUnit}
use Rattle.pw_gen.proofs.unit.function_objects.Given as goal

abbrev pub invariant-loop-f : goal.invariant-loop-f
invariant-loop-f l = record {
  made : l.objects ≡ map (function_object l.vars) (map typed_function_of (take l.f-index l.funs));
  left : AreOfUnit (map typed_function_of (drop l.f-index l.funs));
}
