-- A well-typed unit has few variables.
use Rattle.std.proofs.Common.{◌<◌, ◌^◌, length, sym, subst}
use Rattle.pw_tree.specs.Units.{unit_of}
use Rattle.pw_gen.proofs.FewVariables.{few_variables}
use Rattle.pw_gen.proofs.unit.compile.Goals as goal

pub function_objects-requires-clause-few : goal.function_objects-requires-clause-few
function_objects-requires-clause-few c =
    subst (λ l. length l < 2 ^ 31) (sym c.as_slice-vars.ensures) (few_variables (unit_of c.args.unit.now) c.requires)
