-- The parts of a declaration, in the order in which they are judged.
use Rattle.std.specs.Prelude.{◌≡◌, ℕ, suc, ◌+◌, ◌≤◌, Bool, true, false, ◌||◌, List, [], ◌∷◌, ◌++◌, length, Option, option_map}
use Rattle.pw_base.specs.Limits as limits
use Rattle.pw_tree.specs.declared.ty.Ty.{Ty}
use Rattle.pw_tree.specs.declared.ty.Sig.{Sig}
use Rattle.pw_tree.specs.declared.tunit.TVar.{TVar}
use Rattle.pw_tree.specs.declared.tunit.Init.{Init}
use Rattle.pw_tree.specs.declared.decl.Param.{Param}
use Rattle.pw_tree.specs.declared.decl.InitItem.{InitItem}
use Rattle.pw_tree.specs.declared.decl.InitKind.{InitKind}
use Rattle.pw_tree.specs.Declarations.{Declaration, DeclarationForm, prototype, definition, variable}
use Rattle.pw_tree.specs.TypedStatements.{typed_statements_of}
use Rattle.pw_tree.specs.Units.{Function, typed_function_of}
use Rattle.pw_types.specs.declared.rule.Rule.TheVariants as rules
use Rattle.pw_types.specs.declared.fault.Fault.{Fault}
use Rattle.pw_types.specs.declared.names.File.{File}
use Rattle.pw_types.specs.declared.names.Local.{Local}
use Rattle.pw_types.specs.Faults.{broken, broken_by}
use Rattle.pw_types.specs.Reserved.{is_reserved}
use Rattle.pw_types.specs.Scopes.{Scope, file_named}
use Rattle.pw_types.specs.Declarations.{is_parameter_too_many, faults_of_parameter_name, locals_of, parameters_in, is_definition_of_function, is_redefined, conflicts, is_too_large, has_bad_size, elements_of, does_not_initialise, is_unknown_name, name_in, is_external, file_scope, Whole}
use Rattle.pw_types.specs.Steps.UnitFaults.{faults_of_parameters}
use Rattle.pw_types.specs.Steps.Uses.{uses_of_element, uses_of_elements, uses_of_initialiser, uses_of_form}
use Rattle.pw_types.specs.declared.typed.Body.{Body}
use Rattle.pw_types.specs.declared.defined.Defined.{Defined}
use Rattle.pw_types.specs.declared.defined.Defined.TheVariants.{Nothing, Function as AFunction, Variable as AVariable}
use Rattle.pw_types.specs.Units.{element_of, elements_in, typed_functions_of, typed_variables_of}

-- ---- parameters

-- a parameter of a definition, after those before it
abbrev pub faults_of_parameter : List Local → Param → List Fault
faults_of_parameter before p =
    faults_of_parameter_name true (length before) before p.last p.name
    ++ broken rules.TooManyParameters p.last (is_parameter_too_many (length before))

-- those of a prototype from this number on
unfoldable pub faults_by_number : ℕ → List Param → List Fault
faults_by_number number [] = []
faults_by_number number (p ∷ ps) =
    faults_of_parameter_name false 0 [] p.last p.name
    ++ (broken rules.TooManyParameters p.last (is_parameter_too_many number) ++ faults_by_number (suc number) ps)

-- ---- up to the declarator's end

-- the locals that its parameters are, which a definition has
abbrev pub locals_in : DeclarationForm → List Local
locals_in (prototype result params) = []
locals_in (definition result params body) = locals_of [] params
locals_in (variable ty size init) = []

-- Redeclared and Reserved, of its name
abbrev pub faults_of_name : Option File → Declaration → List Fault
faults_of_name before d =
    broken_by rules.Redeclared d.name_at d.name (is_redefined d before)
    ++ broken_by rules.Reserved d.name_at d.name (is_reserved d.name)

-- Conflict and ArraySize, of its declarator
abbrev pub faults_of_declarator : Option File → ℕ → Declaration → List Fault
faults_of_declarator before elements d =
    broken_by rules.Conflict d.declarator d.name (conflicts d before) ++ broken rules.ArraySize d.declarator (is_too_large elements d)

-- the faults of the parameters of a declaration
abbrev pub faults_in_parameters : DeclarationForm → List Fault
faults_in_parameters form = faults_of_parameters (is_definition_of_function form) [] (parameters_in form)

-- the faults of a declaration up to the end of its declarator
abbrev pub faults_of_head : List File → ℕ → Declaration → List Fault
faults_of_head files elements d =
    faults_of_name (file_named d.name files) d
    ++ (faults_in_parameters d.form ++ faults_of_declarator (file_named d.name files) elements d)

-- the size that is declared is none that is refused, nor are the unit's elements with it
pub record Fits (elements : ℕ) (d : Declaration) : Type 0 where
  pub size : has_bad_size d.form ≡ false
  pub room : elements + elements_of d ≤ limits.module_elements

-- these are the locals that its parameters are, and it has no more parameters than a function may have
pub record AreLocals (form : DeclarationForm) (locals : List Local) : Type 0 where
  pub are : locals ≡ locals_in form
  pub few : length (parameters_in form) ≤ limits.parameters

-- ---- initialisers

-- an element that is judged alone, or one too many
abbrev pub faults_of_value : Scope → Ty → Bool → ℕ → InitKind → List Fault
faults_of_value scope ty is_extra at kind =
    broken_by rules.Unknown at (name_in kind) (is_unknown_name scope kind)
    ++ broken rules.Initialiser at (does_not_initialise scope ty kind || is_extra)

-- the element's value; the name that it uses was noted after the others
pub record IsElement (scope : Scope) (kind : InitKind) (old new : List ℕ) (value : Init) : Type 0 where
  pub is : value ≡ element_of scope kind
  pub used : new ≡ old ++ uses_of_element scope kind

-- the elements' values; the names that they use were noted after the others
pub record AreElements (scope : Scope) (items : List InitItem) (old new : List ℕ) (values : List Init) : Type 0 where
  pub are : values ≡ elements_in scope items
  pub used : new ≡ old ++ uses_of_elements scope items

-- the same of an initialiser, where there is one
pub record AreInitials (scope : Scope) (items : Option (List InitItem)) (old new : List ℕ) (values : Option (List Init)) : Type 0 where
  pub are : values ≡ option_map (elements_in scope) items
  pub used : new ≡ old ++ uses_of_initialiser scope items

-- ---- what is defined

-- the function that a declaration defines, with this signature and body
abbrev pub function_with : Declaration → Sig → Body → Function
function_with d sig body = record {
  name = d.name;
  global = is_external d.linkage;
  sig = sig;
  line = d.line;
  locals = body.count;
  held = body.held;
  body = typed_statements_of body.statements;
}

-- the variable that a declaration defines, with this type, size and initialiser
abbrev pub variable_with : Declaration → Ty → Option ℕ → Option (List Init) → TVar
variable_with d ty size init = record { name = d.name; global = is_external d.linkage; ty = ty; count = size; init = init }

-- the function that was defined, if one was
abbrev pub functions_in : Defined → List Function
functions_in Nothing = []
functions_in (AFunction f) = typed_function_of f ∷ []
functions_in (AVariable v) = []

-- the variable that was defined, if one was
abbrev pub variables_in : Defined → List TVar
variables_in Nothing = []
variables_in (AFunction f) = []
variables_in (AVariable v) = v ∷ []

-- This is what the declaration defines; the names that it uses were noted after the others.
pub record Defines (w : Whole) (files : List File) (d : Declaration) (old new : List ℕ) (defined : Defined) : Type 0 where
  pub functions : functions_in defined ≡ typed_functions_of w files d d.form
  pub variables : variables_in defined ≡ typed_variables_of w files d d.form
  pub used : new ≡ old ++ uses_of_form (file_scope w files) d.form
