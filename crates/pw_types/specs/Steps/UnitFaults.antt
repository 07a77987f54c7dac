-- The faults of declarations and of a unit as the checker meets them, in order of text.
use Rattle.std.specs.Prelude.{ℕ, suc, ◌+◌, Bool, List, [], ◌∷◌, ◌++◌, length, Option, Some, None, ◌-◌, find}
use Rattle.pw_tree.specs.declared.ty.Ty.{Ty}
use Rattle.pw_tree.specs.declared.decl.Param.{Param}
use Rattle.pw_tree.specs.declared.decl.InitItem.{InitItem}
use Rattle.pw_tree.specs.Declarations.{Declaration, DeclarationForm, prototype, definition, variable, UntypedUnit}
use Rattle.pw_types.specs.declared.rule.Rule.TheVariants as rules
use Rattle.pw_types.specs.declared.fault.Fault.{Fault}
use Rattle.pw_types.specs.Faults.{broken, broken_by}
use Rattle.pw_types.specs.Reserved.{is_reserved}
use Rattle.pw_types.specs.declared.names.File.{File}
use Rattle.pw_types.specs.declared.names.Local.{Local}
use Rattle.pw_types.specs.Scopes.{Scope, file_named}
use Rattle.pw_tree.specs.WellTypedUnits.{room}
use Rattle.pw_types.specs.Declarations.{elements_of, outermost, setting, declared_by, Whole, file_scope, local_of, is_parameter_too_many, faults_of_parameter_name, parameters_in, is_definition_of_function, conflicts, is_redefined, is_too_large, faults_of_element}
use Rattle.pw_types.specs.Steps.StatementFaults.{faults_by_all}
use Rattle.pw_types.specs.Units.{whole_of, files_after, lacks_definition, faults_of_lacking}

-- those of parameters in order of text, after those that stand before them
unfoldable pub faults_of_parameters : Bool → List Local → List Param → List Fault
faults_of_parameters is_definition before [] = []
faults_of_parameters is_definition before (p ∷ ps) =
    faults_of_parameter_name is_definition (length before) before p.last p.name
    ++ (broken rules.TooManyParameters p.last (is_parameter_too_many (length before))
    ++ faults_of_parameters is_definition (before ++ local_of (length before) p ∷ []) ps)

-- those of elements in order of text, from this number on
unfoldable pub faults_of_elements : Scope → Ty → ℕ → ℕ → List InitItem → List Fault
faults_of_elements scope ty size number [] = []
faults_of_elements scope ty size number (item ∷ items) =
    faults_of_element scope ty size number item ++ faults_of_elements scope ty size (suc number) items

-- those of an initialiser, where there is one
abbrev pub faults_of_initialiser : Scope → Ty → Option ℕ → Option (List InitItem) → List Fault
faults_of_initialiser scope ty size None = []
faults_of_initialiser scope ty size (Some items) = faults_of_elements scope ty (room size) 0 items

-- those of the body, or of the initialiser
abbrev pub faults_of_form : List ℕ → Scope → DeclarationForm → List Fault
faults_of_form lines scope (prototype result params) = []
faults_of_form lines scope (definition result params body) = faults_by_all (setting lines result) (outermost scope params) body
faults_of_form lines scope (variable ty size init) = faults_of_initialiser scope ty size init

-- Where `elements` elements are defined before it: the faults of the name, of the parameters, of the declarator, and of the
-- initialiser or the body, which see the name itself.
unfoldable pub faults_of_declaration : Whole → List File → ℕ → Declaration → List Fault
faults_of_declaration w files elements d =
    broken_by rules.Redeclared d.name_at d.name (is_redefined d (file_named d.name files))
    ++ (broken_by rules.Reserved d.name_at d.name (is_reserved d.name)
    ++ (faults_of_parameters (is_definition_of_function d.form) [] (parameters_in d.form)
    ++ (broken_by rules.Conflict d.declarator d.name (conflicts d (file_named d.name files))
    ++ (broken rules.ArraySize d.declarator (is_too_large elements d)
    ++ faults_of_form w.lines (file_scope w (declared_by d files)) d.form))))

-- those of declarations in order of text, after these names and this many elements
unfoldable pub faults_of_declarations : Whole → List File → ℕ → List Declaration → List Fault
faults_of_declarations w files elements [] = []
faults_of_declarations w files elements (d ∷ ds) =
    faults_of_declaration w files elements d ++ faults_of_declarations w (declared_by d files) (elements + elements_of d) ds

-- those of a unit: of its declarations in order, then its own, at its last token
abbrev pub faults_in_order : UntypedUnit → List Fault
faults_in_order unit =
    faults_of_declarations (whole_of unit) [] 0 unit.declarations
    ++ faults_of_lacking (length unit.lines - 1) (find lacks_definition (files_after [] unit.declarations))
