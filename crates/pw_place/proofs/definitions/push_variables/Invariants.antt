-- The symbols so far are appended, and the variables that are left have texts.
use Rattle.std.proofs.Common.{◌≡◌, ◌++◌, map, take, drop}
use Rattle.std.specs.List.{enumerate_from, AllByRecursion}
use Rattle.pw_tree.specs.Types.{IsValueType, IsArraySize}
use Rattle.pw_place.specs.Symbols.{variable_symbol}
use Rattle.pw_place.proofs.definitions.push_variables.Given as goal

abbrev pub invariant-loop-i : goal.invariant-loop-i
invariant-loop-i l = record {
  made : l.to ≡ l.fn.to ++ map (variable_symbol l.places.kind l.places.objects.now l.unit) (enumerate_from 0 (take l.i l.variables));
  valued : AllByRecursion (λ x. IsValueType x.ty) (drop l.i l.variables);
  sized : AllByRecursion (λ x. IsArraySize x.count) (drop l.i l.variables);
}
