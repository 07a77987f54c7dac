-- What is left brings the functions that are missing.
use Rattle.std.proofs.Common.{◌≡◌, drop}
use Rattle.pw_tree.specs.TypedStatements.{typed_statements_of}
use Rattle.pw_code.specs.Objects.{functions_of_all}
use Rattle.pw_gen.specs.Steps.Naming.{joined_all}
use Rattle.pw_gen.proofs.dependencies.+name_statement.Given as goal

abbrev pub invariant-name_statements-loop-s : goal.invariant-name_statements-loop-s
invariant-name_statements-loop-s l =
    joined_all l.found (functions_of_all (typed_statements_of (drop l.s-index l.ss))) ≡ joined_all l.fn.found (functions_of_all (typed_statements_of l.ss))
