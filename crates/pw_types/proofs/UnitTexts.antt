-- The names of a unit without faults have types' texts.
use Rattle.std.proofs.Common.{◌≡◌, ℕ, ◌+◌, ◌≤◌, Bool, true, false, ◌||◌, List, [], ◌∷◌, ◌++◌, length, map, Option, Some, None, is_some, refl, arith, inl, inr}
use Rattle.std.specs.Prelude.{bytes_eq}
use Rattle.std.proofs.lemmas.Bool.{cases_Bool}
use Rattle.std.proofs.lemmas.Bool.Decides.{nat_tests}
use Rattle.std.proofs.lemmas.List.{length-map}
use Rattle.pw_tree.specs.declared.ty.Ty.{Ty}
use Rattle.pw_tree.specs.declared.decl.Param.{Param}
use Rattle.pw_tree.specs.declared.decl.InitItem.{InitItem}
use Rattle.pw_tree.specs.Declarations.{Declaration, DeclarationForm, prototype, definition, variable}
use Rattle.pw_tree.specs.Placed.{HaveValueTypes, HasTypes, HaveTypes}
use Rattle.pw_types.specs.declared.rule.Rule.TheVariants as rules
use Rattle.pw_types.specs.declared.names.File.{File}
use Rattle.pw_types.specs.Faults.{broken, broken_by}
use Rattle.pw_types.specs.Reserved.{is_reserved}
use Rattle.pw_types.specs.Scopes.{file_named, marked, with_file}
use Rattle.pw_types.specs.Declarations.{kind_of, parameters_in, is_definition_of_function, is_redefined, conflicts, has_bad_size, is_too_large, first_of, declared_by, file_scope, elements_of, Whole}
use Rattle.pw_types.specs.Steps.UnitFaults.{faults_of_parameters, faults_of_form, faults_of_declaration, faults_of_declarations}
use Rattle.pw_types.specs.Units.{files_after}
use Rattle.pw_types.specs.Steps.Texts.{HasText, HaveTexts}
use Rattle.pw_tree.specs.Types.{AreValueTypes, IsArraySize}
use Rattle.pw_types.proofs.Empty.{left_empty, right_empty}
use Rattle.pw_types.proofs.Parameters.{few_parameters}

-- ---- one declaration

value_types : (ps : List Param) → HaveValueTypes ps → AreValueTypes (map (λ p. p.ty) ps)
unfolding HaveValueTypes AreValueTypes
value_types [] have = tt
value_types (p ∷ ps) have = (have.0, value_types ps have.1)

array_size : (ty : Ty) (size : Option ℕ) (init : Option (List InitItem)) → has_bad_size (variable ty size init) ≡ false →
    IsArraySize size
array_size ty None init good = tt
array_size ty (Some size) init good = (grind (arith, nat_tests), grind (arith, nat_tests))

form_text : (form : DeclarationForm) → HasTypes form
    → faults_of_parameters (is_definition_of_function form) [] (parameters_in form) ≡ []
    → has_bad_size form ≡ false → HasText (kind_of form)
form_text (prototype result ps) have none good =
    let few : length {A = Param} [] + length ps ≤ 6 = few_parameters false [] ps (omega arith) none in
    record { result = have.0; params = value_types ps have.1; few = omega (arith, length-map ps (λ p. p.ty)) }
form_text (definition result ps body) have none good =
    let few : length {A = Param} [] + length ps ≤ 6 = few_parameters true [] ps (omega arith) none in
    record { result = have.0; params = value_types ps have.1; few = omega (arith, length-map ps (λ p. p.ty)) }
form_text (variable ty size init) have none good = (have, array_size ty size init good)

not_broken : (at : ℕ) (b : Bool) → broken rules.ArraySize at b ≡ [] → b ≡ false
not_broken at true none = cc
not_broken at false none = refl

good_size : (b c : Bool) → b || c ≡ false → b ≡ false
good_size true c none = cc
good_size false c none = refl

pub declaration_text : (w : Whole) (files : List File) (elements : ℕ) (d : Declaration) → HasTypes d.form
    → faults_of_declaration w files elements d ≡ [] → HasText (kind_of d.form)
unfolding faults_of_declaration
declaration_text w files elements d have none =
    let a = broken_by rules.Redeclared d.name_at d.name (is_redefined d (file_named d.name files)) in
    let b = broken_by rules.Reserved d.name_at d.name (is_reserved d.name) in
    let c = faults_of_parameters (is_definition_of_function d.form) [] (parameters_in d.form) in
    let e = broken_by rules.Conflict d.declarator d.name (conflicts d (file_named d.name files)) in
    let f = broken rules.ArraySize d.declarator (is_too_large elements d) in
    let g = faults_of_form w.lines (file_scope w (declared_by d files)) d.form in
    let past_name : c ++ (e ++ (f ++ g)) ≡ [] = right_empty b _ (right_empty a (b ++ (c ++ (e ++ (f ++ g)))) none) in
    let past_parameters : e ++ (f ++ g) ≡ [] = right_empty c _ past_name in
    let size : f ≡ [] = left_empty f g (right_empty e (f ++ g) past_parameters) in
    form_text d.form have (left_empty c _ past_name) (good_size _ _ (not_broken d.declarator (is_too_large elements d) size))

-- ---- all names

marked_texts : (name : List ℕ) (is_definition : Bool) (files : List File) → HaveTexts files →
    HaveTexts (map (marked name is_definition) files)
unfolding HaveTexts
marked_texts name is_definition [] have = tt
marked_texts name is_definition (f ∷ fs) have = (
  elim (cases_Bool (bytes_eq f.name name)) [
    | inl same ↦ rw same have.0
    | inr other ↦ rw other have.0
  ],
  marked_texts name is_definition fs have.1,
)

more_texts : (files : List File) (f : File) → HaveTexts files → HasText f.kind → HaveTexts (files ++ f ∷ [])
unfolding HaveTexts
more_texts [] f have text = (text, tt)
more_texts (g ∷ gs) f have text = (have.0, more_texts gs f have.1 text)

with_texts : (files : List File) (f : File) → HaveTexts files → HasText f.kind → HaveTexts (with_file f files)
with_texts files f have text =
    elim (cases_Bool (is_some (file_named f.name files))) [
      | inl there ↦ rw there (marked_texts f.name f.defined files have)
      | inr new ↦ rw new (more_texts files f have text)
    ]

pub texts_after : (w : Whole) (files : List File) (elements : ℕ) (ds : List Declaration)
    → HaveTypes ds → HaveTexts files → faults_of_declarations w files elements ds ≡ [] → HaveTexts (files_after files ds)
unfolding HaveTypes files_after faults_of_declarations
texts_after w files elements [] have texts none = texts
texts_after w files elements (d ∷ ds) have texts none =
    let here = faults_of_declaration w files elements d in
    let later = faults_of_declarations w (declared_by d files) (elements + elements_of d) ds in
    let text = declaration_text w files elements d have.0 (left_empty here later none) in
    texts_after w (declared_by d files) (elements + elements_of d) ds have.1 (with_texts files (first_of d) texts text) (right_empty here later none)
