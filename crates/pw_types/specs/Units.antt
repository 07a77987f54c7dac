-- What a unit declares and defines, and its typed unit.
use Rattle.std.specs.Prelude.{ℕ, ◌+◌, Bool, true, false, ◌&&◌, ◌||◌, not, if◌then◌else◌, List, [], ◌∷◌, ◌++◌, length, map, filter, Option, Some, None, option_map}
use Rattle.std.specs.List.{flat_map, list_any}
use Rattle.std.specs.Str.{bytes_eq}
use Rattle.pw_tree.specs.declared.ty.Ty.{Ty}
use Rattle.pw_tree.specs.declared.ty.Ref.{Ref}
use Rattle.pw_tree.specs.declared.ty.Ref.TheVariants.{Global, LocalFun, LocalVar}
use Rattle.pw_tree.specs.declared.tunit.TVar.{TVar}
use Rattle.pw_tree.specs.declared.tunit.Init.{Init}
use Rattle.pw_tree.specs.declared.tunit.Init.TheVariants as init
use Rattle.pw_tree.specs.declared.tunit.Ext.{Ext}
use Rattle.pw_tree.specs.declared.decl.Param.{Param}
use Rattle.pw_tree.specs.declared.decl.InitItem.{InitItem}
use Rattle.pw_tree.specs.declared.decl.InitKind.{InitKind}
use Rattle.pw_tree.specs.declared.decl.InitKind.TheVariants.{Num, Word}
use Rattle.pw_tree.specs.Statements.{Statements}
use Rattle.pw_tree.specs.Declarations.{Declaration, DeclarationForm, prototype, definition, variable, UntypedUnit}
use Rattle.pw_tree.specs.Units.{Function, TypedUnit}
use Rattle.pw_tree.specs.Binding.{names_used}
use Rattle.pw_tree.specs.TypeTexts.{text_of_function, text_of_variable}
use Rattle.pw_types.specs.declared.rule.Rule.TheVariants as rules
use Rattle.pw_types.specs.declared.fault.Fault.{Fault}
use Rattle.pw_types.specs.Faults.{broken_by}
use Rattle.pw_types.specs.declared.names.Kind.{Kind}
use Rattle.pw_types.specs.declared.names.File.{File}
use Rattle.pw_types.specs.Scopes.{Scope}
use Rattle.pw_types.specs.declared.names.Kind.TheVariants as kinds
use Rattle.pw_types.specs.Typed.{function_named, Designated}
use Rattle.pw_tree.specs.Held.{held_by_all}
use Rattle.pw_types.specs.Blocks.{locals_in_all}
use Rattle.pw_types.specs.TypedStatements.{typed_statements}
use Rattle.pw_types.specs.Declarations.{is_external, is_extern, signature, outermost, setting, declared_by, Whole, file_scope}

-- ---- the names that a unit defines

-- the function's name, where a declaration defines one
abbrev pub function_in : Declaration → List (List ℕ)
function_in d = of_form d.form
  where
    of_form : DeclarationForm → List (List ℕ)
    of_form (definition result params body) = d.name ∷ []
    of_form (prototype result params) = []
    of_form (variable ty size items) = []

-- the variable's name, where a declaration defines one
abbrev pub variable_in : Declaration → List (List ℕ)
variable_in d = of_form d.form
  where
    of_form : DeclarationForm → List (List ℕ)
    of_form (variable ty size items) = if is_extern d.linkage then [] else d.name ∷ []
    of_form (prototype result params) = []
    of_form (definition result params body) = []

-- a list without this name
unfoldable pub without : List ℕ → List (List ℕ) → List (List ℕ)
without name [] = []
without name (other ∷ others) = if bytes_eq name other then without name others else other ∷ without name others

-- the names of a list, each where it stands first
unfoldable pub each_once : List (List ℕ) → List (List ℕ)
each_once [] = []
each_once (name ∷ names) = name ∷ without name (each_once names)

-- in order of text; a unit without faults defines each of them once
abbrev pub functions_of : List Declaration → List (List ℕ)
functions_of ds = each_once (flat_map function_in ds)

-- the same of the variables that it defines
abbrev pub variables_of : List Declaration → List (List ℕ)
variables_of ds = each_once (flat_map variable_in ds)

-- what all declarations of a unit have in common
abbrev pub whole_of : UntypedUnit → Whole
whole_of unit = record {
  functions = functions_of unit.declarations;
  variables = variables_of unit.declarations;
  lines = unit.lines;
}

-- ---- the names at file scope

-- the names after declarations
unfoldable pub files_after : List File → List Declaration → List File
files_after files [] = files
files_after files (d ∷ ds) = files_after (declared_by d files) ds

-- it is a function
abbrev pub is_function : Kind → Bool
is_function (kinds.Function sig) = true
is_function (kinds.Variable ty size) = false

-- a function that is declared `static` and not defined
abbrev pub lacks_definition : File → Bool
lacks_definition f = is_function f.kind && not f.external && not f.defined

-- Unknown, of the unit: the first static prototype without definition
abbrev pub faults_of_lacking : ℕ → Option File → List Fault
faults_of_lacking at None = []
faults_of_lacking at (Some f) = broken_by rules.Unknown at f.name true

-- ---- the typed unit

-- a function's definition
abbrev pub typed_function : Whole → List File → Declaration → Ty → List Param → Statements → Function
typed_function w files d result params body = record {
  name = d.name;
  global = is_external d.linkage;
  sig = signature result params;
  line = d.line;
  locals = length params + locals_in_all body;
  held = held_by_all (typed_statements (setting w.lines result) (outermost (file_scope w files) params) body);
  body = typed_statements (setting w.lines result) (outermost (file_scope w files) params) body;
}

-- a pointer to the function, where the name designates one
abbrev pub designated_or : Option Designated → Init
designated_or (Some f) = init.Fun f.reference
designated_or None = init.Num 0

-- what an element begins with: a number, or a pointer to a function
abbrev pub element_of : Scope → InitKind → Init
element_of scope (Num n) = init.Num n
element_of scope (Word name) = designated_or (function_named scope name)

-- what the elements of a list begin with
abbrev pub elements_in : Scope → List InitItem → List Init
elements_in scope items = map (λ item. element_of scope item.kind) items

-- a variable's definition
abbrev pub typed_variable : Whole → List File → Declaration → Ty → Option ℕ → Option (List InitItem) → TVar
typed_variable w files d ty size items = record {
  name = d.name;
  global = is_external d.linkage;
  ty = ty;
  count = size;
  init = option_map (elements_in (file_scope w files)) items;
}

-- the function that a declaration defines, where it defines one
abbrev pub typed_functions_of : Whole → List File → Declaration → DeclarationForm → List Function
typed_functions_of w files d (definition result params body) = typed_function w files d result params body ∷ []
typed_functions_of w files d (prototype result params) = []
typed_functions_of w files d (variable ty size items) = []

-- the variable that a declaration defines, where it defines one
abbrev pub typed_variables_of : Whole → List File → Declaration → DeclarationForm → List TVar
typed_variables_of w files d (variable ty size items) =
    if is_extern d.linkage then [] else typed_variable w files d ty size items ∷ []
typed_variables_of w files d (prototype result params) = []
typed_variables_of w files d (definition result params body) = []

-- a declaration sees its own name
unfoldable pub typed_functions : Whole → List File → List Declaration → List Function
typed_functions w files [] = []
typed_functions w files (d ∷ ds) =
    typed_functions_of w (declared_by d files) d d.form ++ typed_functions w (declared_by d files) ds

-- the variables that declarations define, in order of text
unfoldable pub typed_variables : Whole → List File → List Declaration → List TVar
typed_variables w files [] = []
typed_variables w files (d ∷ ds) =
    typed_variables_of w (declared_by d files) d d.form ++ typed_variables w (declared_by d files) ds

-- ---- external names

-- the type string of a name at file scope
abbrev pub text_of_kind : Kind → List ℕ
text_of_kind (kinds.Function sig) = text_of_function sig
text_of_kind (kinds.Variable ty size) = text_of_variable ty size

-- the reference is to this external name
abbrev pub refers_to : List ℕ → Ref → Bool
refers_to name (Global other) = bytes_eq other name
refers_to name (LocalFun i) = false
refers_to name (LocalVar i) = false

-- an external name that the unit defines, or that one of these references is to
abbrev pub is_kept : List Ref → File → Bool
is_kept references f = f.external && (f.defined || list_any (refers_to f.name) references)

-- a name with its type string
abbrev pub external_name : File → Ext
external_name f = record { name = f.name; text = text_of_kind f.kind }

-- the external names that are kept
abbrev pub external_names : List Ref → List File → List Ext
external_names references files = map external_name (filter (is_kept references) files)

-- ---- all

-- the functions and variables that a unit defines, in order of definition
abbrev pub definitions_of : UntypedUnit → TypedUnit
definitions_of unit = record {
  functions = typed_functions (whole_of unit) [] unit.declarations;
  variables = typed_variables (whole_of unit) [] unit.declarations;
  names = [];
}

-- The typed unit of a unit without faults: its functions and variables, and the external names that it defines or that stand
-- in a body or an initialiser, each once, in order of their first declaration.
abbrev pub typed_unit : UntypedUnit → TypedUnit
typed_unit unit = record {
  functions = typed_functions (whole_of unit) [] unit.declarations;
  variables = typed_variables (whole_of unit) [] unit.declarations;
  names = external_names (names_used (definitions_of unit)) (files_after [] unit.declarations);
}
