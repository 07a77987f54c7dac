-- What a declaration at file scope declares, and the faults of its phrases' own (C17, 6.2.2 and 6.9).
use Rattle.std.specs.Prelude.{ℕ, ◌+◌, Bool, true, false, ◌&&◌, ◌||◌, not, if◌then◌else◌, List, [], ◌∷◌, ◌++◌, length, map, Option, Some, None, is_some, nat_eq, nat_le, nat_lt}
use Rattle.std.specs.Option.{option_map_or}
use Rattle.pw_base.specs.Limits as limits
use Rattle.pw_tree.specs.declared.ty.Ty.{Ty}
use Rattle.pw_tree.specs.declared.ty.Sig.{Sig}
use Rattle.pw_tree.specs.declared.decl.Param.{Param}
use Rattle.pw_tree.specs.declared.decl.InitItem.{InitItem}
use Rattle.pw_tree.specs.declared.decl.InitKind.{InitKind}
use Rattle.pw_tree.specs.declared.decl.InitKind.TheVariants.{Num, Word}
use Rattle.pw_tree.specs.declared.decl.Linkage.{Linkage}
use Rattle.pw_tree.specs.declared.decl.Linkage.TheVariants.{Plain, Extern, Static}
use Rattle.pw_tree.specs.Declarations.{Declaration, DeclarationForm, prototype, definition, variable}
use Rattle.pw_types.specs.declared.rule.Rule.TheVariants as rules
use Rattle.pw_types.specs.declared.fault.Fault.{Fault}
use Rattle.pw_types.specs.Faults.{broken, broken_by}
use Rattle.pw_tree.specs.Types.{is_pointer, same_type, pointer_to}
use Rattle.pw_types.specs.Reserved.{is_reserved}
use Rattle.pw_types.specs.declared.names.Kind.{Kind}
use Rattle.pw_types.specs.declared.names.File.{File}
use Rattle.pw_types.specs.declared.names.Local.{Local}
use Rattle.pw_types.specs.Scopes.{Scope, local_named, with_file, name_meaning}
use Rattle.pw_types.specs.declared.names.Kind.TheVariants as kinds
use Rattle.pw_types.specs.Typed.{function_named, Designated}
use Rattle.pw_types.specs.Expressions.{is_missing}
use Rattle.pw_types.specs.Blocks.{Setting, Block}
use Rattle.pw_types.specs.Statements.{is_local_too_many}

-- ---- what is declared

-- the linkage is external unless it is declared `static`
abbrev pub is_external : Linkage → Bool
is_external Plain = true
is_external Extern = true
is_external Static = false

-- it is declared `extern`
abbrev pub is_extern : Linkage → Bool
is_extern Extern = true
is_extern Plain = false
is_extern Static = false

-- a function with a body, and a variable that is not `extern`
abbrev pub defines : Linkage → DeclarationForm → Bool
defines linkage (prototype result params) = false
defines linkage (definition result params body) = true
defines linkage (variable ty size init) = not (is_extern linkage)

-- a function's result and the types of its parameters
abbrev pub signature : Ty → List Param → Sig
signature result params = record { result = result; params = map (λ p. p.ty) params }

-- what a declaration declares: a function, a variable, or an array
abbrev pub kind_of : DeclarationForm → Kind
kind_of (prototype result params) = kinds.Function (signature result params)
kind_of (definition result params body) = kinds.Function (signature result params)
kind_of (variable ty size init) = kinds.Variable ty size

-- Two kinds are one.
unfoldable pub same_types : List Ty → List Ty → Bool
same_types [] [] = true
same_types [] (b ∷ bs) = false
same_types (a ∷ as') [] = false
same_types (a ∷ as') (b ∷ bs) = same_type a b && same_types as' bs

-- two arrays of one size, or two that are none
abbrev pub same_size : Option ℕ → Option ℕ → Bool
same_size None None = true
same_size (Some m) (Some n) = nat_eq m n
same_size None (Some n) = false
same_size (Some m) None = false

-- two functions of one signature, or two variables of one type and size
abbrev pub same_kind : Kind → Kind → Bool
same_kind (kinds.Function f) (kinds.Function g) = same_type f.result g.result && same_types f.params g.params
same_kind (kinds.Variable t m) (kinds.Variable u n) = same_type t u && same_size m n
same_kind (kinds.Function f) (kinds.Variable u n) = false
same_kind (kinds.Variable t m) (kinds.Function g) = false

-- ---- parameters

-- a parameter's name, in a definition and in a prototype
abbrev pub faults_of_parameter_name : Bool → ℕ → List Local → ℕ → Option (List ℕ) → List Fault
faults_of_parameter_name is_definition number before at None = []
faults_of_parameter_name true number before at (Some name) =
    broken_by rules.Redeclared at name (is_some (local_named name before))
    ++ (broken rules.TooManyLocals at (is_local_too_many number) ++ broken_by rules.Reserved at name (is_reserved name))
faults_of_parameter_name false number before at (Some name) = broken_by rules.Reserved at name (is_reserved name)

-- a parameter's name, where it has one
abbrev pub named_or_nothing : Option (List ℕ) → List ℕ
named_or_nothing (Some name) = name
named_or_nothing None = []

-- the local that a parameter of a definition is
abbrev pub local_of : ℕ → Param → Local
local_of number p = record { name = named_or_nothing p.name; ty = p.ty; number = number }

-- TooManyParameters: a parameter that has as many before it as a function may have
abbrev pub is_parameter_too_many : ℕ → Bool
is_parameter_too_many before = nat_le limits.parameters before

-- the locals that the parameters of a definition are
unfoldable pub locals_of : List Local → List Param → List Local
locals_of before [] = before
locals_of before (p ∷ ps) = locals_of (before ++ local_of (length before) p ∷ []) ps

-- the parameters of a function's declaration
abbrev pub parameters_in : DeclarationForm → List Param
parameters_in (prototype result params) = params
parameters_in (definition result params body) = params
parameters_in (variable ty size init) = []

-- it has a body
abbrev pub is_definition_of_function : DeclarationForm → Bool
is_definition_of_function (prototype result params) = false
is_definition_of_function (definition result params body) = true
is_definition_of_function (variable ty size init) = false

-- ---- the declarator

-- Redeclared, of a definition whose name is defined
abbrev pub is_redefined : Declaration → Option File → Bool
is_redefined d None = false
is_redefined d (Some f) = defines d.linkage d.form && f.defined

-- Conflict: another type or linkage than an earlier declaration's
abbrev pub conflicts : Declaration → Option File → Bool
conflicts d None = false
conflicts d (Some f) = not (same_kind f.kind (kind_of d.form) && eq_bool f.external (is_external d.linkage))
  where
    eq_bool : Bool → Bool → Bool
    eq_bool true b = b
    eq_bool false b = not b

-- how many elements a definition has
abbrev pub elements_of_form : DeclarationForm → ℕ
elements_of_form (variable ty None init) = 1
elements_of_form (variable ty (Some size) init) = size
elements_of_form (prototype result params) = 0
elements_of_form (definition result params body) = 0

-- how many elements a declaration adds to the unit's; one that defines nothing adds none
abbrev pub elements_of : Declaration → ℕ
elements_of d = if defines d.linkage d.form then elements_of_form d.form else 0

-- an array has no elements, or more than an array may have
abbrev pub has_bad_size : DeclarationForm → Bool
has_bad_size (variable ty (Some size) init) = nat_eq size 0 || nat_lt limits.array_elements size
has_bad_size (variable ty None init) = false
has_bad_size (prototype result params) = false
has_bad_size (definition result params body) = false

-- ArraySize: of so many elements before it, the unit's variables have too many with it
abbrev pub is_too_large : ℕ → Declaration → Bool
is_too_large elements d = has_bad_size d.form || (nat_lt 0 (elements_of d) && nat_lt limits.module_elements (elements + elements_of d))

-- ---- initialisers

-- a name is a function that this type of pointers points to
abbrev pub points_to : Ty → Option Designated → Bool
points_to ty None = false
points_to ty (Some f) = option_map_or (λ p. same_type p ty) (pointer_to f.sig) false

-- a number does not fit a pointer, nor a name that is no function of its type
abbrev pub does_not_initialise : Scope → Ty → InitKind → Bool
does_not_initialise scope ty (Num n) = is_pointer ty
does_not_initialise scope ty (Word name) = not (points_to ty (function_named scope name))

-- an element is a name that nothing visible declares
abbrev pub is_unknown_name : Scope → InitKind → Bool
is_unknown_name scope (Num n) = false
is_unknown_name scope (Word name) = is_missing (name_meaning scope name)

-- the name that an element is, where it is one
abbrev pub name_in : InitKind → List ℕ
name_in (Num n) = []
name_in (Word name) = name

-- Initialiser: an element does not fit its variable, or is one too many
abbrev pub is_wrong_element : Scope → Ty → ℕ → ℕ → InitKind → Bool
is_wrong_element scope ty size number kind = does_not_initialise scope ty kind || nat_le size number

-- Unknown and Initialiser, of one element
abbrev pub faults_of_element : Scope → Ty → ℕ → ℕ → InitItem → List Fault
faults_of_element scope ty size number item =
    broken_by rules.Unknown item.last (name_in item.kind) (is_unknown_name scope item.kind)
    ++ broken rules.Initialiser item.last (is_wrong_element scope ty size number item.kind)

-- ---- after the declarator

-- parameters belong to the outermost block of the body
abbrev pub outermost : Scope → List Param → Block
outermost scope params =
    record { scope = record scope { locals = locals_of [] params }; start = 0; count = length params }

-- what the statements of a function's body have in common
abbrev pub setting : List ℕ → Ty → Setting
setting lines result = record { result = result; lines = lines; in_loop = false; in_head = false }

-- ---- the names after a declaration

-- a name at file scope, as this declaration gives it
abbrev pub first_of : Declaration → File
first_of d = record { name = d.name; external = is_external d.linkage; kind = kind_of d.form; defined = defines d.linkage d.form }

-- the names with that of a declaration
abbrev pub declared_by : Declaration → List File → List File
declared_by d files = with_file (first_of d) files

-- ---- what is visible

-- What all declarations have in common: the names of the functions and of the variables that the unit defines, in order,
-- and the line of each of its tokens.
pub record Whole : Type 0 where
  pub functions : List (List ℕ)
  pub variables : List (List ℕ)
  pub lines : List ℕ

-- what is visible where these names are declared at file scope
abbrev pub file_scope : Whole → List File → Scope
file_scope w files = record { files = files; functions = w.functions; variables = w.variables; locals = [] }
