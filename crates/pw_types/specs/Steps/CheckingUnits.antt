-- What the declarations of a unit give, one after another.
use Rattle.std.specs.Prelude.{◌≡◌, ℕ, ◌+◌, ◌-◌, ◌≤◌, List, [], ◌++◌, map, length, find}
use Rattle.pw_base.specs.Limits as limits
use Rattle.pw_tree.specs.Declarations.{Declaration, UntypedUnit}
use Rattle.pw_tree.specs.declared.tunit.Ext.{Ext}
use Rattle.pw_tree.specs.Units.{TypedUnit, typed_function_of}
use Rattle.pw_types.specs.declared.fault.Fault.{Fault}
use Rattle.pw_types.specs.declared.defined.Defined.{Defined}
use Rattle.pw_types.specs.declared.progress.Progress.{Progress}
use Rattle.pw_types.specs.declared.names.File.{File}
use Rattle.pw_types.specs.Declarations.{Whole, file_scope, declared_by, elements_of}
use Rattle.pw_types.specs.Steps.Uses.{uses_of_form, uses_of_declarations, names_by_number}
use Rattle.pw_types.specs.Steps.UnitFaults.{faults_of_form, faults_of_declarations}
use Rattle.pw_types.specs.Units.{whole_of, files_after, lacks_definition, faults_of_lacking, typed_functions_of, typed_variables_of, typed_functions, typed_variables}
use Rattle.pw_types.specs.Steps.CheckingDeclarations.{faults_of_head, Defines}

-- the faults of a declaration up to its declarator's end, and after it
abbrev pub faults_of_parts : Whole → List File → ℕ → Declaration → List Fault
faults_of_parts w files elements d =
    faults_of_head files elements d ++ faults_of_form w.lines (file_scope w (declared_by d files)) d.form

-- nothing was declared
pub record IsFresh (p : Progress) : Type 0 where
  pub files : p.files ≡ []
  pub elements : p.elements ≡ 0
  pub used : p.used.items ≡ []
  pub functions : p.functions ≡ []
  pub variables : p.variables ≡ []

-- The declaration was judged, and this is what it defines.
pub record IsJudged (w : Whole) (old new : Progress) (d : Declaration) (defined : Defined) : Type 0 where
  pub files : new.files ≡ declared_by d old.files
  pub elements : new.elements ≡ old.elements + elements_of d
  pub room : new.elements ≤ limits.module_elements
  pub defines : Defines w (declared_by d old.files) d old.used.items new.used.items defined
  pub functions : new.functions ≡ old.functions
  pub variables : new.variables ≡ old.variables

-- The new progress is the old one with the declaration.
pub record IsAfter (w : Whole) (old : Progress) (d : Declaration) (new : Progress) : Type 0 where
  pub files : new.files ≡ declared_by d old.files
  pub elements : new.elements ≡ old.elements + elements_of d
  pub room : new.elements ≤ limits.module_elements
  pub used : new.used.items ≡ old.used.items ++ uses_of_form (file_scope w (declared_by d old.files)) d.form
  pub functions : map typed_function_of new.functions ≡ map typed_function_of old.functions ++ typed_functions_of w (declared_by d old.files) d d.form
  pub variables : new.variables ≡ old.variables ++ typed_variables_of w (declared_by d old.files) d d.form

-- ---- all declarations

-- These declarations were judged from the first on, and this is what they gave.
pub record IsAll (w : Whole) (ds : List Declaration) (p : Progress) : Type 0 where
  pub files : p.files ≡ files_after [] ds
  pub used : p.used.items ≡ uses_of_declarations w [] ds
  pub functions : map typed_function_of p.functions ≡ typed_functions w [] ds
  pub variables : p.variables ≡ typed_variables w [] ds

-- ---- the end of a unit

-- the faults of a unit's declarations, and those at its last token
abbrev pub faults_of_all : UntypedUnit → List Fault
faults_of_all u = faults_of_declarations (whole_of u) [] 0 u.declarations

-- the faults of the whole unit
abbrev pub faults_at_end : UntypedUnit → List Fault
faults_at_end u = faults_of_lacking (length u.lines - 1) (find lacks_definition (files_after [] u.declarations))

-- All declarations of the unit were judged without fault, and this is what they gave.
pub record IsDeclared (u : UntypedUnit) (p : Progress) : Type 0 where
  pub free : faults_of_all u ≡ []
  pub all : IsAll (whole_of u) u.declarations p

-- the external names by the numbers that were noted
abbrev pub names_in : UntypedUnit → List Ext
names_in u = names_by_number (uses_of_declarations (whole_of u) [] u.declarations) 0 (files_after [] u.declarations)

-- the typed unit with these names
abbrev pub unit_by_number : UntypedUnit → TypedUnit
unit_by_number u = record {
  functions = typed_functions (whole_of u) [] u.declarations;
  variables = typed_variables (whole_of u) [] u.declarations;
  names = names_in u;
}
