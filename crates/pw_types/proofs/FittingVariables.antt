-- A variable of a unit without faults is well typed, and all have few elements together.
use Rattle.std.proofs.Common.{◌≡◌, ℕ, zero, suc, ◌+◌, ◌^◌, ◌≤◌, ◌<◌, Bool, true, false, ◌||◌, ◌&&◌, not, if◌then◌else◌, List, [], ◌∷◌, ◌++◌, length, map, sum_by, Option, Some, None, refl, sym, ap, subst, ◌∙◌, arith, inl, inr}
use Rattle.std.specs.Prelude.{⊤, nat_le, nat_lt, option_map}
use Rattle.std.specs.List.{AllByRecursion}
use Rattle.std.specs.Option.{option_map_or}
use Rattle.std.proofs.lemmas.Bool.{cases_Bool}
use Rattle.std.proofs.lemmas.Bool.Decides.{nat_tests}
use Rattle.std.proofs.lemmas.List.{length-map}
use Rattle.std.proofs.lemmas.List.Sums.{sum_by-append}
use Rattle.pw_tree.specs.declared.ty.Ty.{Ty}
use Rattle.pw_tree.specs.declared.ty.Ty.TheVariants.{Void, Long, Ulong, Fn}
use Rattle.pw_tree.specs.declared.tunit.TVar.{TVar}
use Rattle.pw_tree.specs.declared.tunit.Init.{Init}
use Rattle.pw_tree.specs.declared.decl.InitItem.{InitItem}
use Rattle.pw_tree.specs.declared.decl.InitKind.{InitKind}
use Rattle.pw_tree.specs.declared.decl.InitKind.TheVariants.{Num, Word}
use Rattle.pw_tree.specs.Declarations.{Declaration, DeclarationForm, prototype, definition, variable}
use Rattle.pw_tree.specs.Types.{IsValueType, is_pointer, same_type, pointer_to}
use Rattle.pw_tree.specs.Units.{TypedUnit}
use Rattle.pw_tree.specs.Proper.{HasElementNumber, HaveElementNumbers}
use Rattle.pw_tree.specs.WellTypedExpressions.{number, class_of, Points}
use Rattle.pw_tree.specs.WellTypedUnits.{room, Initialises, IsWellTypedVariable}
use Rattle.pw_types.specs.declared.rule.Rule.TheVariants as rules
use Rattle.pw_types.specs.declared.names.Kind.{Kind}
use Rattle.pw_types.specs.declared.names.Kind.TheVariants.{Function, Variable}
use Rattle.pw_types.specs.declared.names.File.{File}
use Rattle.pw_types.specs.Faults.{broken, broken_by}
use Rattle.pw_types.specs.Scopes.{Scope, Meaning, missing, a_local, declared, name_meaning, function_reference}
use Rattle.pw_types.specs.Typed.{Designated, function_named, function_of_meaning, function_of_kind}
use Rattle.pw_types.specs.Steps.Uses.{uses_of_meaning, uses_of_name, file_number, uses_of_element, uses_of_elements, uses_of_initialiser}
use Rattle.pw_types.specs.Declarations.{is_extern, defines, elements_of_form, elements_of, is_too_large, points_to, does_not_initialise, name_in, is_unknown_name, is_wrong_element, faults_of_element, Whole, file_scope, declared_by}
use Rattle.pw_types.specs.Steps.UnitFaults.{faults_of_elements, faults_of_initialiser, faults_of_declaration, faults_of_declarations}
use Rattle.pw_types.specs.Units.{designated_or, element_of, elements_in, typed_variable, typed_variables_of, typed_variables}
use Rattle.pw_types.specs.Steps.Texts.{HasText}
use Rattle.pw_types.proofs.Empty.{left_empty, right_empty}
use Rattle.pw_types.proofs.NoFaults.{or_left, or_right, not_broken}
use Rattle.pw_types.proofs.Fitting.{IsAmong, AreAmong, among_left, among_right, own_file, FilesFit}
use Rattle.pw_types.proofs.SameKinds.{same_type_is}
use Rattle.pw_types.proofs.DefinedNames.{declares_well}

-- ---- elements of an initialiser

no_pointer : (ty : Ty) → IsValueType ty → is_pointer ty ≡ false → class_of ty ≡ number
no_pointer Void h k = absurd h
no_pointer Long h k = refl
no_pointer Ulong h k = refl
no_pointer (Fn j) h k = cc

pointed : (o : Option Ty) (ty : Ty) → option_map_or (λ p. same_type p ty) o false ≡ true → o ≡ Some ty
pointed None ty h = cc
pointed (Some p) ty h = ap Some (same_type_is p ty h)

not_not : (b : Bool) → not b ≡ false → b ≡ true
not_not true h = refl
not_not false h = cc

module _ (unit : TypedUnit) (used : List ℕ) (scope : Scope) (fit : FilesFit unit used scope) (ty : Ty) (value : IsValueType ty) where
  kind_element : (name : List ℕ) (f : File) (k : Kind) → name_meaning scope name ≡ declared f → f.kind ≡ k →
      points_to ty (function_of_kind scope f k) ≡ true →
      IsAmong used (file_number f.name scope.files) → Initialises unit ty (designated_or (function_of_kind scope f k))
  kind_element name f (Function sig) is kind points u = record {
    sig = sig;
    function = fit.function f sig (own_file scope name f is) kind u;
    type = pointed (pointer_to sig) ty points;
  }
  kind_element name f (Variable t size) is kind points u = cc

  name_element : (name : List ℕ) (m : Meaning) → name_meaning scope name ≡ m →
      points_to ty (function_of_meaning scope m) ≡ true →
      AreAmong used (uses_of_meaning scope m) → Initialises unit ty (designated_or (function_of_meaning scope m))
  name_element name missing is points u = cc
  name_element name (a_local l) is points u = cc
  name_element name (declared f) is points u = kind_element name f f.kind is refl points u.0

  one_element : (k : InitKind) → HasElementNumber k → does_not_initialise scope ty k ≡ false →
      AreAmong used (uses_of_element scope k) →
      Initialises unit ty (element_of scope k)
  one_element (Num n) small fits u = (no_pointer ty value fits, small)
  one_element (Word name) small fits u = name_element name (name_meaning scope name) refl (not_not _ fits) u

  within : (size n : ℕ) → nat_le size n ≡ false → n < size
  within size n h = grind (arith, nat_tests)

  elements_fit : (size n : ℕ) (items : List InitItem) → n ≤ size → faults_of_elements scope ty size n items ≡ [] →
      AllByRecursion (λ item. HasElementNumber item.kind) items → AreAmong used (uses_of_elements scope items) →
      (n + length (elements_in scope items) ≤ size) × AllByRecursion (Initialises unit ty) (elements_in scope items)
  unfolding faults_of_elements uses_of_elements
  elements_fit size n [] few none small u = (omega arith, tt)
  elements_fit size n (item ∷ items) few none small u =
      let own : faults_of_element scope ty size n item ≡ [] = left_empty _ _ none in
      let wrong : is_wrong_element scope ty size n item.kind ≡ false =
      not_broken rules.Initialiser item.last (is_wrong_element scope ty size n item.kind)
      (right_empty (broken_by rules.Unknown item.last (name_in item.kind) (is_unknown_name scope item.kind)) _ own) in
      let less : n < size = within size n (or_right _ _ wrong) in
      let later = elements_fit size (suc n) items less (right_empty (faults_of_element scope ty size n item) _ none) small.1
      (among_right used (uses_of_element scope item.kind) (uses_of_elements scope items) u) in (
        omega (arith, later.0),
        (one_element item.kind small.0 (or_left _ _ wrong) (among_left used (uses_of_element scope item.kind) (uses_of_elements scope items) u), later.1),
      )

-- ---- variables

module _ (unit : TypedUnit) (used : List ℕ) (w : Whole) (files : List File) (d : Declaration) (ty : Ty) (size : Option ℕ)
    (fit : FilesFit unit used (file_scope w files)) where
  pub variable_well_typed : (items : Option (List InitItem)) → HasText (Variable ty size) →
      faults_of_initialiser (file_scope w files) ty size items ≡ [] →
      HaveElementNumbers items → AreAmong used (uses_of_initialiser (file_scope w files) items) →
      IsWellTypedVariable unit (typed_variable w files d ty size items)
  variable_well_typed None text none small u = record { type = text.0; size = text.1; initialiser = tt }
  variable_well_typed (Some items) text none small u =
      let r = elements_fit unit used (file_scope w files) fit ty text.0 (room size) 0 items (omega arith) none small u in
      record {
        type = text.0;
        size = text.1;
        initialiser = (omega (arith, r.0), r.1);
      }

-- ---- how many elements

few_by : (elements here : ℕ) (bad : Bool) → elements ≤ 262144 →
    (bad || (nat_lt 0 here && nat_lt 262144 (elements + here))) ≡ false → elements + here ≤ 262144
few_by elements here bad few h = some (nat_lt 0 here) (nat_lt 262144 (elements + here)) refl refl (or_right bad _ h)
  where
    some : (a b : Bool) → nat_lt 0 here ≡ a → nat_lt 262144 (elements + here) ≡ b → (a && b) ≡ false → elements + here ≤ 262144
    some true true p q r = cc
    some true false p q r = grind (arith, nat_tests)
    some false b p q r = grind (arith, nat_tests)

elements_by_size : (size : Option ℕ) (ty : Ty) (items : Option (List InitItem)) →
    elements_of_form (variable ty size items) ≡ room size
elements_by_size None ty items = refl
elements_by_size (Some n) ty items = refl

elements_by : (w : Whole) (files : List File) (d : Declaration) (f : DeclarationForm) →
    sum_by (λ (x : TVar). room x.count) (typed_variables_of w files d f) ≡ (if defines d.linkage f then elements_of_form f else 0)
elements_by w files d (prototype result params) = refl
elements_by w files d (definition result params body) = refl
elements_by w files d (variable ty size items) = by (is_extern d.linkage)
  where
    by : (b : Bool) → sum_by (λ (x : TVar). room x.count) (if b then [] else typed_variable w files d ty size items ∷ [])
        ≡ (if not b then elements_of_form (variable ty size items) else 0)
    by true = refl
    by false = let e : 0 + room size ≡ room size = omega arith in e ∙ sym (elements_by_size size ty items)

pub few_elements : (w : Whole) (files : List File) (elements : ℕ) (ds : List Declaration) → elements ≤ 262144 →
    faults_of_declarations w files elements ds ≡ [] →
    elements + sum_by (λ (x : TVar). room x.count) (typed_variables w files ds) ≤ 262144
unfolding typed_variables faults_of_declarations
few_elements w files elements [] few none = omega arith
few_elements w files elements (d ∷ ds) few none =
    let g = declares_well w files elements d (left_empty (faults_of_declaration w files elements d) _ none) in
    let now : elements + elements_of d ≤ 262144 = few_by elements (elements_of d) _ few g.large in
    let later = few_elements w (declared_by d files) (elements + elements_of d) ds now (right_empty (faults_of_declaration w files elements d) _ none) in
    let here : sum_by (λ (x : TVar). room x.count) (typed_variables_of w (declared_by d files) d d.form) ≡ elements_of d = elements_by w (declared_by d files) d d.form in
    let both = sum_by-append (λ (x : TVar). room x.count) (typed_variables_of w (declared_by d files) d d.form) (typed_variables w (declared_by d files) ds) in
    omega (arith, later, here, both)
