-- What is left adds the names that are missing.
use Rattle.std.proofs.Common.{◌≡◌, map, length}
use Rattle.pw_tree.specs.Declarations.{declaration_of}
use Rattle.std.specs.List.{flat_map}
use Rattle.pw_types.specs.Units.{variable_in, variables_of}
use Rattle.pw_types.proofs.UnitNames.{joined_all}
use Rattle.pw_types.proofs.unit.variables_of.Given as goal

abbrev pub invariant-loop-rest : goal.invariant-loop-rest
invariant-loop-rest l = variables_of (map declaration_of l.decls) ≡ joined_all l.names (flat_map variable_in (map declaration_of l.rest))

abbrev pub decreases-loop-rest : goal.decreases-loop-rest
decreases-loop-rest l = length l.rest
