-- What is left brings the functions that are missing.
use Rattle.std.proofs.Common.{◌≡◌, drop}
use Rattle.pw_tree.specs.TypedExpressions.{typed_expressions_of}
use Rattle.pw_code.specs.Objects.{functions_in_all}
use Rattle.pw_gen.specs.Steps.Naming.{joined_all}
use Rattle.pw_gen.proofs.dependencies.+name_expression.Given as goal

abbrev pub invariant-name_expressions-loop-e : goal.invariant-name_expressions-loop-e
invariant-name_expressions-loop-e l =
    joined_all l.found (functions_in_all (typed_expressions_of (drop l.e-index l.es))) ≡ joined_all l.fn.found (functions_in_all (typed_expressions_of l.es))
