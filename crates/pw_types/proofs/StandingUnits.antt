-- Declarations as phrases, and the unit round them: their faults are those of the list, and they stand where they are placed.
use Rattle.std.proofs.Common.{◌≡◌, ℕ, suc, ◌+◌, ◌-◌, Bool, List, [], ◌∷◌, ◌++◌, length, arith, refl, sym, ◌∙◌, nat_le, append_assoc}
use Rattle.std.specs.Prelude.{Some, None, find}
use Rattle.pw_tree.specs.declared.ty.Ty.{Ty}
use Rattle.pw_tree.specs.declared.decl.Param.{Param}
use Rattle.pw_tree.specs.declared.decl.InitItem.{InitItem}
use Rattle.pw_tree.specs.Declarations.{Declaration, DeclarationForm, prototype, definition, variable, UntypedUnit}
use Rattle.pw_tree.specs.Placed.{AreParametersPlaced, AreElementsPlaced, IsFormPlaced, IsDeclarationPlaced, AreDeclarationsPlaced, IsParsed}
use Rattle.pw_types.specs.declared.rule.Rule.TheVariants as rules
use Rattle.pw_types.specs.declared.names.File.{File}
use Rattle.pw_types.specs.declared.names.Local.{Local}
use Rattle.pw_types.specs.declared.fault.Fault.{Fault}
use Rattle.pw_types.specs.Faults.{broken, broken_by}
use Rattle.pw_types.specs.Reserved.{is_reserved}
use Rattle.pw_types.specs.Scopes.{Scope, file_named}
use Rattle.pw_tree.specs.WellTypedUnits.{room}
use Rattle.pw_types.specs.Declarations.{faults_of_parameter_name, local_of, parameters_in, is_definition_of_function, conflicts, elements_of, is_too_large, outermost, setting, declared_by, is_redefined, Whole, file_scope}
use Rattle.pw_types.specs.Steps.UnitFaults.{faults_of_parameters, faults_of_elements, faults_of_form, faults_of_declaration, faults_of_declarations, faults_in_order}
use Rattle.pw_types.specs.Units.{whole_of, files_after, lacks_definition, faults_of_lacking}
use Rattle.pw_types.specs.Nests.{nested_parameters, elements, form, declarator, declaration, declarations, unit}
use Rattle.pw_types.proofs.OwnFaults.{rises_append, rises_broken, rises_broken_by, rises_parameter, rises_element, rises_lacking}
use Rattle.pw_types.proofs.Standing.{Stands, stands, AllStand, no_more, one_more}
use Rattle.pw_types.proofs.Gathering.{flat, gather, both}
use Rattle.pw_types.proofs.StandingStatements.{leaf_stands, outer_stands, statements_faults, statements_stand}

-- ---- parameters

parameters_faults : (is_definition : Bool) (before : List Local) (ps : List Param) (own : List Fault) →
    gather (nested_parameters is_definition before ps) own ≡ faults_of_parameters is_definition before ps ++ own
unfolding flat nested_parameters faults_of_parameters
parameters_faults is_definition before [] own = refl
parameters_faults is_definition before (p ∷ ps) own =
    let name = faults_of_parameter_name is_definition (length before) before p.last p.name in
    let many = broken rules.TooManyParameters p.last (nat_le 6 (length before)) in
    let others = faults_of_parameters is_definition (before ++ local_of (length before) p ∷ []) ps in
    both refl (parameters_faults is_definition (before ++ local_of (length before) p ∷ []) ps own)
    ∙ append_assoc name many (others ++ own)
    ∙ both refl (sym (append_assoc many others own)) ∙ sym (append_assoc name (many ++ others) own)

parameters_stand : (is_definition : Bool) (before : List Local) (ps : List Param) (low high : ℕ) →
    AreParametersPlaced low high ps →
    AllStand low high (nested_parameters is_definition before ps)
unfolding nested_parameters AreParametersPlaced
parameters_stand is_definition before [] low high p = no_more
parameters_stand is_definition before (q ∷ qs) low high p =
    one_more q.last
    (leaf_stands low (omega (arith, p.0, p.1)) (rises_append (rises_parameter is_definition (length before) before q.last q.name)
    (rises_broken 18 rules.TooManyParameters q.last (nat_le 6 (length before)) (omega arith)))) p.2
    (parameters_stand is_definition (before ++ local_of (length before) q ∷ []) qs _ _ p.3)

parameters_placed : (d : Declaration) (f : DeclarationForm) → IsFormPlaced d f →
    AreParametersPlaced (suc d.name_at) d.declarator (parameters_in f)
unfolding AreParametersPlaced
parameters_placed d (prototype result params) p = p
parameters_placed d (definition result params body) p = p.0
parameters_placed d (variable ty size init) p = tt

-- ---- initialisers and bodies

elements_faults : (scope : Scope) (ty : Ty) (size number : ℕ) (items : List InitItem) →
    gather (elements scope ty size number items) [] ≡ faults_of_elements scope ty size number items
unfolding flat elements faults_of_elements
elements_faults scope ty size number [] = refl
elements_faults scope ty size number (item ∷ items) = both refl (elements_faults scope ty size (suc number) items)

elements_stand : (scope : Scope) (ty : Ty) (size number : ℕ) (items : List InitItem) (low high : ℕ) →
    AreElementsPlaced low high items →
    AllStand low high (elements scope ty size number items)
unfolding elements AreElementsPlaced
elements_stand scope ty size number [] low high p = no_more
elements_stand scope ty size number (item ∷ items) low high p =
    one_more item.last (leaf_stands low (omega (arith, p.0, p.1)) (rises_element scope ty size number item)) p.2
    (elements_stand scope ty size (suc number) items _ _ p.3)

form_faults : (lines : List ℕ) (scope : Scope) (f : DeclarationForm) →
    gather (form lines scope f) [] ≡ faults_of_form lines scope f
unfolding flat
form_faults lines scope (prototype result params) = refl
form_faults lines scope (definition result params body) = statements_faults (setting lines result) (outermost scope params) body
form_faults lines scope (variable ty size None) = refl
form_faults lines scope (variable ty size (Some items)) = elements_faults scope ty (room size) 0 items

form_stands : (lines : List ℕ) (scope : Scope) (d : Declaration) (f : DeclarationForm) → IsFormPlaced d f →
    AllStand (suc d.declarator) d.last (form lines scope f)
form_stands lines scope d (prototype result params) p = no_more
form_stands lines scope d (definition result params body) p =
    statements_stand (setting lines result) (outermost scope params) body _ _ refl p.1
form_stands lines scope d (variable ty size None) p = no_more
form_stands lines scope d (variable ty size (Some items)) p = elements_stand scope ty (room size) 0 items _ _ p

-- ---- declarations

declaration_faults : (w : Whole) (files : List File) (before : ℕ) (d : Declaration) →
    flat (declaration w files before d) ≡ faults_of_declaration w files before d
unfolding flat faults_of_declaration
declaration_faults w files before d =
    let redeclared = broken_by rules.Redeclared d.name_at d.name (is_redefined d (file_named d.name files)) in
    let reserved = broken_by rules.Reserved d.name_at d.name (is_reserved d.name) in
    let params = faults_of_parameters (is_definition_of_function d.form) [] (parameters_in d.form) in
    let conflict = broken_by rules.Conflict d.declarator d.name (conflicts d (file_named d.name files)) in
    let large = broken rules.ArraySize d.declarator (is_too_large before d) in
    let after = faults_of_form w.lines (file_scope w (declared_by d files)) d.form in
    both
    (both refl (parameters_faults (is_definition_of_function d.form) [] (parameters_in d.form) (conflict ++ large))
    ∙ append_assoc redeclared reserved (params ++ (conflict ++ large)))
    (form_faults w.lines (file_scope w (declared_by d files)) d.form)
    ∙ append_assoc redeclared (reserved ++ (params ++ (conflict ++ large))) after
    ∙ both refl (append_assoc reserved (params ++ (conflict ++ large)) after
    ∙ both refl (append_assoc params (conflict ++ large) after
    ∙ both refl (append_assoc conflict large after)))

declarator_stands : (files : List File) (before : ℕ) (d : Declaration) (low high : ℕ) → IsDeclarationPlaced low high d →
    Stands low d.declarator (declarator files before d)
declarator_stands files before d low high p =
    stands d.declarator (omega (arith, p.from, p.name, p.declarator)) (omega arith)
    (one_more d.name_at
    (leaf_stands low (omega (arith, p.from, p.name)) (rises_append
    (rises_broken_by 0 rules.Redeclared d.name_at d.name (is_redefined d (file_named d.name files)) (omega arith))
    (rises_broken_by 2 rules.Reserved d.name_at d.name (is_reserved d.name) (omega arith)))) p.declarator
    (parameters_stand (is_definition_of_function d.form) [] (parameters_in d.form) _ _ (parameters_placed d d.form p.form)))
    (rises_append
    (rises_broken_by 0 rules.Conflict d.declarator d.name (conflicts d (file_named d.name files)) (omega arith))
    (rises_broken 3 rules.ArraySize d.declarator (is_too_large before d) (omega arith)))

declaration_stands : (w : Whole) (files : List File) (before : ℕ) (d : Declaration) (low high : ℕ) →
    IsDeclarationPlaced low high d →
    Stands low d.last (declaration w files before d)
declaration_stands w files before d low high p =
    outer_stands low d.last _ (omega (arith, p.from, p.name, p.declarator, p.end))
    (one_more d.declarator (declarator_stands files before d low high p) p.end
    (form_stands w.lines (file_scope w (declared_by d files)) d d.form p.form))

declarations_faults : (w : Whole) (files : List File) (before : ℕ) (ds : List Declaration) (own : List Fault) →
    gather (declarations w files before ds) own ≡ faults_of_declarations w files before ds ++ own
unfolding flat declarations faults_of_declarations
declarations_faults w files before [] own = refl
declarations_faults w files before (d ∷ ds) own =
    both (declaration_faults w files before d) (declarations_faults w (declared_by d files) (before + elements_of d) ds own)
    ∙ sym (append_assoc (faults_of_declaration w files before d) (faults_of_declarations w (declared_by d files) (before + elements_of d) ds) own)

declarations_stand : (w : Whole) (files : List File) (before : ℕ) (ds : List Declaration) (low high : ℕ) →
    AreDeclarationsPlaced low high ds →
    AllStand low (high - 1) (declarations w files before ds)
unfolding declarations AreDeclarationsPlaced
declarations_stand w files before [] low high p = no_more
declarations_stand w files before (d ∷ ds) low high p =
    one_more d.last (declaration_stands w files before d low high p.0) (omega (arith, p.0.to))
    (declarations_stand w (declared_by d files) (before + elements_of d) ds _ _ p.1)

-- ---- units

pub unit_faults : (u : UntypedUnit) → flat (unit u) ≡ faults_in_order u
unfolding flat
unit_faults u =
    declarations_faults (whole_of u) [] 0 u.declarations
    (faults_of_lacking (length u.lines - 1) (find lacks_definition (files_after [] u.declarations)))

pub unit_stands : (u : UntypedUnit) → IsParsed u → Stands 0 (length u.lines - 1) (unit u)
unit_stands u w =
    stands (length u.lines - 1) (omega arith) (omega arith)
    (declarations_stand (whole_of u) [] 0 u.declarations 0 (length u.lines) w.placed)
    (rises_lacking (length u.lines - 1) (find lacks_definition (files_after [] u.declarations)))
