-- What is left has the faults of the whole, and gives what is missing.
use Rattle.std.proofs.Common.{◌≡◌, ◌≤◌, [], ◌++◌, map, length}
use Rattle.pw_tree.specs.Declarations.{declaration_of}
use Rattle.pw_tree.specs.Placed.{HaveTypes}
use Rattle.pw_tree.specs.Units.{typed_function_of}
use Rattle.pw_types.specs.Units.{files_after, typed_functions, typed_variables}
use Rattle.pw_types.specs.Steps.UnitFaults.{faults_of_declarations}
use Rattle.pw_types.specs.Steps.Uses.{uses_of_declarations}
use Rattle.pw_types.proofs.unit.judge_declarations.Given as goal

abbrev pub invariant-loop-rest : goal.invariant-loop-rest
invariant-loop-rest l = record {
  types : HaveTypes (map declaration_of l.rest);
  room : l.progress.elements ≤ 262144;
  faults :
      faults_of_declarations l.whole [] 0 (map declaration_of l.decls)
      ≡ faults_of_declarations l.whole l.progress.files l.progress.elements (map declaration_of l.rest);
  files : files_after [] (map declaration_of l.decls) ≡ files_after l.progress.files (map declaration_of l.rest);
  used :
      uses_of_declarations l.whole [] (map declaration_of l.decls)
      ≡ l.progress.used.items ++ uses_of_declarations l.whole l.progress.files (map declaration_of l.rest);
  functions :
      typed_functions l.whole [] (map declaration_of l.decls)
      ≡ map typed_function_of l.progress.functions ++ typed_functions l.whole l.progress.files (map declaration_of l.rest);
  variables :
      typed_variables l.whole [] (map declaration_of l.decls)
      ≡ l.progress.variables ++ typed_variables l.whole l.progress.files (map declaration_of l.rest);
}

abbrev pub decreases-loop-rest : goal.decreases-loop-rest
decreases-loop-rest l = length l.rest
