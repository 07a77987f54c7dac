-- The typed unit of a unit without faults is well typed.
use Rattle.std.proofs.Common.{◌≡◌, ℕ, ◌+◌, ◌-◌, ◌≤◌, Bool, true, false, ◌||◌, if◌then◌else◌, List, [], ◌∷◌, ◌++◌, length, find, Option, None, refl, sym, ap, subst, ◌∙◌, arith, bytes_eq, eq-eqb, inl, inr}
use Rattle.std.specs.Prelude.{⊤, nat_eq}
use Rattle.std.specs.List.{list_any, AllByRecursion, IsDistinct}
use Rattle.std.proofs.lemmas.Bool.{cases_Bool}
use Rattle.pw_tree.specs.declared.ty.Ty.{Ty}
use Rattle.pw_tree.specs.declared.decl.InitItem.{InitItem}
use Rattle.pw_tree.specs.Declarations.{Declaration, DeclarationForm, prototype, definition, variable, UntypedUnit}
use Rattle.pw_tree.specs.Placed.{IsFormPlaced, AreDeclarationsPlaced, IsDeclarationPlaced, HaveTypes}
use Rattle.pw_tree.specs.Proper.{IsProperDeclaration, IsFormProper, IsShort, HasFormNumbers, IsRead}
use Rattle.pw_tree.specs.Units.{Function as TypedFunction, TypedUnit}
use Rattle.pw_tree.specs.WellTypedUnits.{IsWellTypedFunction, IsWellTypedVariable, IsWellTyped}
use Rattle.pw_types.specs.declared.names.File.{File}
use Rattle.pw_types.specs.Declarations.{is_extern, kind_of, parameters_in, is_definition_of_function, elements_of, Whole, file_scope, declared_by}
use Rattle.pw_types.specs.Steps.UnitFaults.{faults_of_parameters, faults_of_form, faults_of_declaration, faults_of_declarations, faults_in_order}
use Rattle.pw_types.specs.Steps.Uses.{uses_of_form, uses_of_declarations}
use Rattle.pw_types.specs.Units.{whole_of, files_after, lacks_definition, typed_variable, typed_functions_of, typed_variables_of, typed_functions, typed_variables}
use Rattle.pw_types.specs.Steps.Texts.{HasText, HaveTexts}
use Rattle.pw_types.specs.Laws.{UnitsWithoutFaultsAreWellTyped}
use Rattle.pw_types.proofs.Empty.{left_empty, right_empty}
use Rattle.pw_types.proofs.UnitTexts.{declaration_text, texts_after}
use Rattle.pw_types.proofs.Fitting.{IsAmong, AreAmong, among_left, among_right, FilesFit}
use Rattle.pw_types.proofs.SoundShapes.{AreSmallLines}
use Rattle.pw_types.proofs.JoinedFiles.{names_of}
use Rattle.pw_types.proofs.AscendingFaults.{faults_are}
use Rattle.pw_types.proofs.NotedUnits.{no_names, names_after, typed_unit_is}
use Rattle.pw_types.specs.Steps.CheckingUnits.{unit_by_number}
use Rattle.pw_types.proofs.NamedTexts.{names_apart, texts_are}
use Rattle.pw_types.proofs.DefinedNames.{NoFaultOf, declares_well, function_entries, variable_entries, StandsIn, AreDefined, all_defined, none_defined}
use Rattle.pw_types.proofs.FittingUnits.{fit_before, function_entries_are, variable_entries_are, fit_at_end, functions_named, variables_named, function_names, variable_names, none_lacks}
use Rattle.pw_types.proofs.FittingFunctions.{function_well_typed}
use Rattle.pw_types.proofs.FittingVariables.{variable_well_typed, few_elements}

-- ---- lists

both_all : {A : Type 0} (P : A → Type 0) (xs ys : List A) → AllByRecursion P xs → AllByRecursion P ys →
    AllByRecursion P (xs ++ ys)
both_all P [] ys h k = k
both_all P (x ∷ xs) ys h k = (h.0, both_all P xs ys h.1 k)

among_more : (used : List ℕ) (y x : ℕ) → IsAmong used x → IsAmong (y ∷ used) x
among_more used y x h = elim (cases_Bool (nat_eq y x)) [
  | inl same ↦ ap (λ b. b || list_any (λ m. nat_eq m x) used) same
  | inr other ↦ ap (λ b. b || list_any (λ m. nat_eq m x) used) other ∙ h
]

all_among_more : (used : List ℕ) (y : ℕ) (xs : List ℕ) → AreAmong used xs → AreAmong (y ∷ used) xs
all_among_more used y [] h = tt
all_among_more used y (x ∷ xs) h = (among_more used y x h.0, all_among_more used y xs h.1)

among_themselves : (xs : List ℕ) → AreAmong xs xs
among_themselves [] = tt
among_themselves (x ∷ xs) =
    (ap (λ b. b || list_any (λ m. nat_eq m x) xs) (eq-eqb x x refl), all_among_more xs x xs (among_themselves xs))

-- ---- each declaration

module _ (unit : TypedUnit) (used : List ℕ) (w : Whole) (lines : AreSmallLines w.lines) where
  functions_by : (files : List File) (elements : ℕ) (d : Declaration) (f : DeclarationForm) → d.form ≡ f →
      FilesFit unit used (file_scope w (declared_by d files)) →
      NoFaultOf w files elements d → HasText (kind_of f) → IsProperDeclaration d → IsFormPlaced d f → d.declarator ≤ d.last →
      AreAmong used (uses_of_form (file_scope w (declared_by d files)) f) →
      AllByRecursion (IsWellTypedFunction unit) (typed_functions_of w (declared_by d files) d f)
  functions_by files elements d (definition result params body) is fit good text proper placed order u =
      let none = subst (λ f. faults_of_form w.lines (file_scope w (declared_by d files)) f ≡ []) is good.form in
      let params_none = subst (λ f. faults_of_parameters (is_definition_of_function f) [] (parameters_in f) ≡ []) is good.params in (
        function_well_typed unit used w (declared_by d files) d result params body fit u none params_none text (subst IsFormProper is proper.proper)
            (subst (IsShort d) is proper.short) proper.line (subst HasFormNumbers is proper.numbers) placed.1 order lines,
        tt,
      )
  functions_by files elements d (prototype result params) is fit good text proper placed order u = tt
  functions_by files elements d (variable ty size items) is fit good text proper placed order u = tt

  defined_variable : (files : List File) (d : Declaration) (ty : Ty) (size : Option ℕ) (items : Option (List InitItem)) (b : Bool) →
      IsWellTypedVariable unit (typed_variable w files d ty size items) →
      AllByRecursion (IsWellTypedVariable unit) (if b then [] else typed_variable w files d ty size items ∷ [])
  defined_variable files d ty size items true h = tt
  defined_variable files d ty size items false h = (h, tt)

  variables_by : (files : List File) (elements : ℕ) (d : Declaration) (f : DeclarationForm) → d.form ≡ f →
      FilesFit unit used (file_scope w (declared_by d files)) →
      NoFaultOf w files elements d → HasText (kind_of f) → IsProperDeclaration d → AreAmong used (uses_of_form (file_scope w (declared_by d files)) f) →
      AllByRecursion (IsWellTypedVariable unit) (typed_variables_of w (declared_by d files) d f)
  variables_by files elements d (variable ty size items) is fit good text proper u =
      let none = subst (λ f. faults_of_form w.lines (file_scope w (declared_by d files)) f ≡ []) is good.form in
      defined_variable (declared_by d files) d ty size items (is_extern d.linkage)
      (variable_well_typed unit used w (declared_by d files) d ty size fit items text none (subst HasFormNumbers is proper.numbers) u)
  variables_by files elements d (prototype result params) is fit good text proper u = tt
  variables_by files elements d (definition result params body) is fit good text proper u = tt

  -- what holds of the typed functions and variables of declarations
  record AreWellTyped (files : List File) (ds : List Declaration) : Type 0 where
    pub functions : AllByRecursion (IsWellTypedFunction unit) (typed_functions w files ds)
    pub variables : AllByRecursion (IsWellTypedVariable unit) (typed_variables w files ds)

  all_well_typed : (files : List File) (elements : ℕ) (ds : List Declaration) (low high : ℕ) →
      FilesFit unit used (file_scope w (files_after files ds)) →
      faults_of_declarations w files elements ds ≡ [] → HaveTypes ds → AreDeclarationsPlaced low high ds → AllByRecursion IsProperDeclaration ds →
      AreAmong used (uses_of_declarations w files ds) → AreWellTyped files ds
  unfolding files_after faults_of_declarations HaveTypes AreDeclarationsPlaced uses_of_declarations typed_functions typed_variables
  all_well_typed files elements [] low high fit none types placed proper u = record { functions = tt; variables = tt }
  all_well_typed files elements (d ∷ ds) low high fit none types placed proper u =
      let own : faults_of_declaration w files elements d ≡ [] = left_empty _ _ none in
      let later : faults_of_declarations w (declared_by d files) (elements + elements_of d) ds ≡ [] = right_empty (faults_of_declaration w files elements d) _ none in
      let good = declares_well w files elements d own in
      let text = declaration_text w files elements d types.0 own in
      let here : FilesFit unit used (file_scope w (declared_by d files)) = fit_before w unit used (declared_by d files) ds fit in
      let us1 = uses_of_form (file_scope w (declared_by d files)) d.form in
      let us2 = uses_of_declarations w (declared_by d files) ds in
      let p : IsDeclarationPlaced low high d = placed.0 in
      let r = all_well_typed (declared_by d files) (elements + elements_of d) ds _ _ fit later types.1 placed.1 proper.1 (among_right used us1 us2 u) in
      record {
        functions = both_all (IsWellTypedFunction unit) (typed_functions_of w (declared_by d files) d d.form) (typed_functions w (declared_by d files) ds)
            (functions_by files elements d d.form refl here good text proper.0 p.form p.end (among_left used us1 us2 u)) r.functions;
        variables = both_all (IsWellTypedVariable unit) (typed_variables_of w (declared_by d files) d d.form) (typed_variables w (declared_by d files) ds)
            (variables_by files elements d d.form refl here good text proper.0 (among_left used us1 us2 u)) r.variables;
      }

-- ---- all

no_texts : HaveTexts []
unfolding HaveTexts
no_texts = tt

well_typed_by_number : (u : UntypedUnit) → IsRead u → faults_in_order u ≡ [] → IsWellTyped (unit_by_number u)
well_typed_by_number u read none =
    let w : Whole = whole_of u in
    let ds : List Declaration = u.declarations in
    let final : List File = files_after [] ds in
    let used : List ℕ = uses_of_declarations w [] ds in
    let declared : faults_of_declarations w [] 0 ds ≡ [] = left_empty _ _ none in
    let lacking : find lacks_definition final ≡ None =
    none_lacks (length u.lines - 1) (find lacks_definition final) (right_empty (faults_of_declarations w [] 0 ds) _ none) in
    let texts : HaveTexts final = texts_after w [] 0 ds read.parsed.types no_texts declared in
    let a : AreDefined final (function_entries ds) (variable_entries ds) = all_defined w [] 0 ds [] [] declared none_defined in
    let fit = fit_at_end u texts lacking a in
    let r = all_well_typed (unit_by_number u) used w read.lines [] 0 ds _ _ fit declared read.parsed.types read.parsed.placed read.declarations (among_themselves used) in
    record {
      definitions_differ = subst (IsDistinct bytes_eq)
          ((λ i. names_of (function_entries_are w [] ds i) ++ names_of (variable_entries_are w [] ds i))
          ∙ (λ i. function_names (typed_functions w [] ds) i ++ variable_names (typed_variables w [] ds) i)) a.apart;
      names_differ = names_apart used 0 final (names_after [] ds no_names);
      texts = texts_are used 0 final texts;
      functions_named = functions_named u texts lacking a (typed_functions w [] ds)
          (subst (AllByRecursion (StandsIn final)) (function_entries_are w [] ds) a.functions_stand);
      variables_named = variables_named u texts lacking a (typed_variables w [] ds)
          (subst (AllByRecursion (StandsIn final)) (variable_entries_are w [] ds) a.variables_stand);
      few_elements = let n = few_elements w [] 0 ds (omega arith) declared in omega (arith, n);
      functions = r.functions;
      variables = r.variables;
    }

pub units_without_faults_are_well_typed : UnitsWithoutFaultsAreWellTyped
units_without_faults_are_well_typed u read none =
    let free : faults_in_order u ≡ [] = sym (faults_are u) ∙ none in
    subst IsWellTyped (typed_unit_is u read (left_empty _ _ free)) (well_typed_by_number u read free)
