-- The external names by the numbers that judging notes are those that the unit defines, or that stand in a body or an initialiser.
use Rattle.std.proofs.Common.{◌≡◌, ℕ, suc, ◌+◌, Bool, true, false, ◌||◌, ◌&&◌, not, cond, if◌then◌else◌, List, [], ◌∷◌, ◌++◌, map, Option, Some, None, refl, sym, ap, subst, ◌∙◌, arith, eq-eqb, append-nil, bytes_eq, inl, inr}
use Rattle.std.specs.Prelude.{nat_eq, option_map, filter}
use Rattle.std.specs.List.{list_any, flat_map, AllByRecursion, IsDistinct}
use Rattle.std.specs.Option.{option_map_or}
use Rattle.std.proofs.lemmas.Bool.{cases_Bool}
use Rattle.std.proofs.lemmas.Bool.Decides.{nat_tests}
use Rattle.std.proofs.lemmas.List.Folds.{list_any-append}
use Rattle.pw_tree.specs.declared.ty.Ty.{Ty}
use Rattle.pw_tree.specs.declared.ty.Ref.{Ref}
use Rattle.pw_tree.specs.declared.tunit.TVar.{TVar}
use Rattle.pw_tree.specs.declared.tunit.Init.{Init}
use Rattle.pw_tree.specs.declared.decl.InitItem.{InitItem}
use Rattle.pw_tree.specs.declared.decl.InitKind.{InitKind}
use Rattle.pw_tree.specs.declared.decl.InitKind.TheVariants.{Num, Word}
use Rattle.pw_tree.specs.declared.decl.Linkage.{Linkage}
use Rattle.pw_tree.specs.declared.decl.Linkage.TheVariants.{Plain, Extern, Static}
use Rattle.pw_tree.specs.Declarations.{Declaration, DeclarationForm, prototype, definition, variable, UntypedUnit}
use Rattle.pw_tree.specs.Proper.{MayBeInitialised, IsProperDeclaration, IsRead}
use Rattle.pw_tree.specs.Units.{Function as TypedFunction}
use Rattle.pw_tree.specs.Depends.{names_of_all}
use Rattle.pw_tree.specs.Binding.{names_in_items, names_used}
use Rattle.pw_types.specs.declared.rule.Rule.TheVariants as rules
use Rattle.pw_types.specs.declared.names.Kind.{Kind}
use Rattle.pw_types.specs.declared.names.Kind.TheVariants.{Function, Variable}
use Rattle.pw_types.specs.declared.names.File.{File}
use Rattle.pw_types.specs.Faults.{broken_by}
use Rattle.pw_types.specs.Scopes.{Scope, Meaning, missing, a_local, declared, name_meaning, file_named, function_reference}
use Rattle.pw_types.specs.Blocks.{Setting, Block}
use Rattle.pw_types.specs.TypedStatements.{typed_statements}
use Rattle.pw_types.specs.Typed.{function_of_meaning, function_of_kind}
use Rattle.pw_tree.specs.WellTypedUnits.{room}
use Rattle.pw_types.specs.Declarations.{is_extern, points_to, does_not_initialise, is_unknown_name, name_in, is_wrong_element, faults_of_element, outermost, setting, declared_by, elements_of, Whole, file_scope}
use Rattle.pw_types.specs.Units.{whole_of, files_after, designated_or, element_of, elements_in, typed_function, typed_variable, typed_functions_of, typed_variables_of, typed_functions, typed_variables, refers_to, is_kept, external_name, external_names, definitions_of, typed_unit}
use Rattle.pw_types.specs.Steps.Uses.{file_number, uses_of_name, uses_of_element, uses_of_elements, uses_of_initialiser, uses_of_form, uses_of_declarations, is_kept_by_number, names_by_number}
use Rattle.pw_types.specs.Steps.UnitFaults.{faults_of_elements, faults_of_initialiser, faults_of_form, faults_of_declaration, faults_of_declarations, faults_in_order}
use Rattle.pw_types.specs.Steps.CheckingUnits.{unit_by_number}
use Rattle.pw_types.proofs.Empty.{left_empty, right_empty}
use Rattle.pw_types.proofs.NoFaults.{or_left, not_broken}
use Rattle.pw_types.proofs.JoinedFiles.{bytes_same, bytes_itself, names_of, apart}
use Rattle.pw_types.proofs.DefinedNames.{declares_well}
use Rattle.pw_types.proofs.FittingUnits.{stays_after}
use Rattle.pw_types.proofs.SoundStatements.{statements_sound}
use Rattle.pw_types.proofs.NotedReferences.{or_false, noted, stands, Agrees, before, function_noted, statements_noted}

-- ---- initialisers

not_not : (b : Bool) → not b ≡ false → b ≡ true
not_not true h = refl
not_not false h = cc

module _ (name : List ℕ) (number : ℕ) (scope : Scope) (agrees : Agrees name number scope.files) (ty : Ty) where
  kind_noted : (spelling : List ℕ) (f : File) (k : Kind) → name_meaning scope spelling ≡ declared f →
      points_to ty (function_of_kind scope f k) ≡ true →
      (us : List ℕ) (items : List Init) → noted name number us ≡ stands name number (names_in_items items) →
      noted name number (uses_of_name scope spelling ++ us) ≡ stands name number (names_in_items (designated_or (function_of_kind scope f k) ∷ items))
  kind_noted spelling f (Function sig) is points us items h =
      before name number (uses_of_name scope spelling) us (function_reference scope f) (names_in_items items)
      (function_noted name number scope agrees spelling f is) h
  kind_noted spelling f (Variable t size) is points us items h = cc

  word_noted : (spelling : List ℕ) (m : Meaning) → name_meaning scope spelling ≡ m →
      points_to ty (function_of_meaning scope m) ≡ true →
      (us : List ℕ) (items : List Init) → noted name number us ≡ stands name number (names_in_items items) →
      noted name number (uses_of_name scope spelling ++ us) ≡ stands name number (names_in_items (designated_or (function_of_meaning scope m) ∷ items))
  word_noted spelling missing is points us items h = cc
  word_noted spelling (a_local l) is points us items h = cc
  word_noted spelling (declared f) is points us items h = kind_noted spelling f f.kind is points us items h

  element_noted : (k : InitKind) → does_not_initialise scope ty k ≡ false →
      (us : List ℕ) (items : List Init) → noted name number us ≡ stands name number (names_in_items items) →
      noted name number (uses_of_element scope k ++ us) ≡ stands name number (names_in_items (element_of scope k ∷ items))
  element_noted (Num n) fits us items h = h
  element_noted (Word spelling) fits us items h = word_noted spelling (name_meaning scope spelling) refl (not_not _ fits) us items h

  elements_noted : (size n : ℕ) (items : List InitItem) → faults_of_elements scope ty size n items ≡ [] →
      noted name number (uses_of_elements scope items) ≡ stands name number (names_in_items (elements_in scope items))
  unfolding faults_of_elements uses_of_elements
  elements_noted size n [] none = refl
  elements_noted size n (item ∷ items) none =
      let own : faults_of_element scope ty size n item ≡ [] = left_empty _ _ none in
      let wrong : is_wrong_element scope ty size n item.kind ≡ false =
      not_broken rules.Initialiser item.last (is_wrong_element scope ty size n item.kind)
      (right_empty (broken_by rules.Unknown item.last (name_in item.kind) (is_unknown_name scope item.kind)) _ own) in
      element_noted item.kind (or_left _ _ wrong) (uses_of_elements scope items) (elements_in scope items)
      (elements_noted size (suc n) items (right_empty (faults_of_element scope ty size n item) _ none))

  initialiser_noted : (size : Option ℕ) (items : Option (List InitItem)) → faults_of_initialiser scope ty size items ≡ [] →
      noted name number (uses_of_initialiser scope items) ≡ stands name number (option_map_or names_in_items (option_map (elements_in scope) items) [])
  initialiser_noted size None none = refl
  initialiser_noted size (Some items) none = elements_noted (room size) 0 items none

-- ---- declarations

abbrev names_in_functions : List TypedFunction → List Ref
names_in_functions functions = flat_map (λ f. names_of_all f.body) functions

abbrev names_in_variables : List TVar → List Ref
names_in_variables variables = flat_map (λ x. option_map_or names_in_items x.init []) variables

or_turned : (a b c d : Bool) → ((a || b) || (c || d)) ≡ ((a || c) || (b || d))
or_turned true b c d = refl
or_turned false true true d = refl
or_turned false true false d = refl
or_turned false false c d = refl

or_grouped : (a b c : Bool) → (a || (b || c)) ≡ ((a || b) || c)
or_grouped true b c = refl
or_grouped false b c = refl

module _ (name : List ℕ) (number : ℕ) where
  stand_in_both : {A : Type 0} (h : A → List Ref) (xs ys : List A) →
      stands name number (flat_map h (xs ++ ys)) ≡ (stands name number (flat_map h xs) || stands name number (flat_map h ys))
  stand_in_both h [] ys = refl
  stand_in_both h (x ∷ xs) ys =
      list_any-append (refers_to name) (h x) (flat_map h (xs ++ ys))
      ∙ ap (λ b. stands name number (h x) || b) (stand_in_both h xs ys)
      ∙ or_grouped (stands name number (h x)) (stands name number (flat_map h xs)) (stands name number (flat_map h ys))
      ∙ ap (λ b. b || stands name number (flat_map h ys)) (sym (list_any-append (refers_to name) (h x) (flat_map h xs)))

  stand_in_one : (rs : List Ref) → stands name number rs ≡ stands name number (rs ++ [])
  stand_in_one rs = ap (stands name number) (sym (append-nil rs))

  variable_by : (w : Whole) (files : List File) (d : Declaration) (ty : Ty) (size : Option ℕ) (items : Option (List InitItem)) (l : Linkage) →
      Agrees name number files → faults_of_initialiser (file_scope w files) ty size items ≡ [] → MayBeInitialised l (variable ty size items) →
      noted name number (uses_of_initialiser (file_scope w files) items)
      ≡ stands name number (names_in_variables (if is_extern l then [] else typed_variable w files d ty size items ∷ []))
  variable_by w files d ty size items Plain agrees none may =
      initialiser_noted name number (file_scope w files) agrees ty size items none
      ∙ stand_in_one (option_map_or names_in_items (option_map (elements_in (file_scope w files)) items) [])
  variable_by w files d ty size items Static agrees none may =
      initialiser_noted name number (file_scope w files) agrees ty size items none
      ∙ stand_in_one (option_map_or names_in_items (option_map (elements_in (file_scope w files)) items) [])
  variable_by w files d ty size None Extern agrees none may = refl
  variable_by w files d ty size (Some items) Extern agrees none may = absurd may

  form_noted : (w : Whole) (files : List File) (d : Declaration) (f : DeclarationForm) → Agrees name number files →
      faults_of_form w.lines (file_scope w files) f ≡ [] → MayBeInitialised d.linkage f →
      noted name number (uses_of_form (file_scope w files) f)
      ≡ (stands name number (names_in_functions (typed_functions_of w files d f)) || stands name number (names_in_variables (typed_variables_of w files d f)))
  form_noted w files d (prototype result params) agrees none may = refl
  form_noted w files d (definition result params body) agrees none may =
      let b : Block = outermost (file_scope w files) params in
      let x : Setting = setting w.lines result in
      let references : List Ref = names_of_all (typed_statements x b body) in
      statements_noted name number x b body agrees (statements_sound x b body none)
      ∙ stand_in_one references ∙ sym (or_false (stands name number (references ++ [])))
  form_noted w files d (variable ty size items) agrees none may = variable_by w files d ty size items d.linkage agrees none may

-- ---- the name's number

apart_by : (b c : Bool) (m n : ℕ) → (b ≡ true → c ≡ true → ⊥) → (b ≡ false → nat_eq m n ≡ false) →
    nat_eq (cond (not b) (1 + m) 0) (cond (not c) (1 + n) 0) ≡ false
apart_by true true m n h k = absurd (h refl refl)
apart_by true false m n h k = grind (arith, nat_tests)
apart_by false true m n h k = grind (arith, nat_tests)
apart_by false false m n h k = let other : nat_eq m n ≡ false = k refl in grind (arith, nat_tests)

not_both : (name other third : List ℕ) → bytes_eq other third ≡ false → bytes_eq name other ≡ true →
    bytes_eq name third ≡ true → ⊥
not_both name other third apart p q =
    let same : other ≡ third = sym (bytes_same name other p) ∙ bytes_same name third q in
    let c : true ≡ false = sym (bytes_itself other) ∙ (ap (bytes_eq other) same ∙ apart) in cc

-- two names have two numbers
numbers_differ : (name other : List ℕ) (files : List File) (f : File) → file_named name files ≡ Some f →
    bytes_eq name other ≡ false →
    nat_eq (file_number name files) (file_number other files) ≡ false
numbers_differ name other [] f h apart = cc
numbers_differ name other (g ∷ gs) f h apart =
    apart_by (bytes_eq g.name name) (bytes_eq g.name other) (file_number name gs) (file_number other gs) (not_both g.name name other apart)
    (λ p. numbers_differ name other gs f (sym (ap (λ b. cond b (Some g) (file_named name gs)) p) ∙ h) apart)

module _ (name : List ℕ) (number : ℕ) where
  -- the name is external, and this is its number
  record IsExternal (files : List File) : Type 0 where
    pub file : File
    pub there : file_named name files ≡ Some file
    pub external : file.external ≡ true
    pub number_is : file_number name files ≡ number

  some_same : (f g : File) (o : Option File) → o ≡ Some f → o ≡ Some g → f ≡ g
  some_same f g None h k = cc
  some_same f g (Some o) h k = cc

  agrees_before : (files : List File) (ds : List Declaration) → IsExternal (files_after files ds) → Agrees name number files
  agrees_before files ds x f h =
      let s = stays_after f.name f files ds h in
      elim (cases_Bool (bytes_eq f.name name)) [
        | inl same ↦
            (let is : f.name ≡ name = bytes_same f.name name same in
            let here : file_named name (files_after files ds) ≡ Some s.now = subst (λ n. file_named n (files_after files ds) ≡ Some s.now) is s.there in
            let now : s.now ≡ x.file = some_same s.now x.file _ here x.there in
            let external : f.external ≡ true = sym s.same_linkage ∙ ap (λ (g : File). g.external) now ∙ x.external in
            let at : file_number f.name files ≡ number = sym s.same_number ∙ ap (λ n. file_number n (files_after files ds)) is ∙ x.number_is in
            eq-eqb (file_number f.name files) number at ∙ sym (λ i. external i && same i))
        | inr other ↦
            (λ i. nat_eq (sym s.same_number i) (sym x.number_is i)) ∙ numbers_differ f.name name (files_after files ds) s.now s.there other
            ∙ sym (ap (λ b. f.external && b) other ∙ and_false f.external)
      ]
    where
      and_false : (b : Bool) → (b && false) ≡ false
      and_false true = refl
      and_false false = refl

  declarations_noted : (w : Whole) (files : List File) (elements : ℕ) (ds : List Declaration) →
      IsExternal (files_after files ds) →
      faults_of_declarations w files elements ds ≡ [] → AllByRecursion IsProperDeclaration ds →
      noted name number (uses_of_declarations w files ds)
      ≡ (stands name number (names_in_functions (typed_functions w files ds)) || stands name number (names_in_variables (typed_variables w files ds)))
  unfolding files_after faults_of_declarations uses_of_declarations typed_functions typed_variables
  declarations_noted w files elements [] x none proper = refl
  declarations_noted w files elements (d ∷ ds) x none proper =
      let now : List File = declared_by d files in
      let good = declares_well w files elements d (left_empty _ _ none) in
      let here = form_noted name number w now d d.form (agrees_before now ds x) good.form proper.0.initialiser in
      let later = declarations_noted w now (elements + elements_of d) ds x (right_empty (faults_of_declaration w files elements d) _ none) proper.1 in
      list_any-append (λ n. nat_eq n number) (uses_of_form (file_scope w now) d.form) (uses_of_declarations w now ds)
      ∙ (λ i. here i || later i)
      ∙ or_turned (stands name number (names_in_functions (typed_functions_of w now d d.form))) (stands name number (names_in_variables (typed_variables_of w now d d.form)))
      (stands name number (names_in_functions (typed_functions w now ds))) (stands name number (names_in_variables (typed_variables w now ds)))
      ∙ sym (λ i. stand_in_both name number (λ (f : TypedFunction). names_of_all f.body) (typed_functions_of w now d d.form) (typed_functions w now ds) i
      || stand_in_both name number (λ (y : TVar). option_map_or names_in_items y.init []) (typed_variables_of w now d d.form) (typed_variables w now ds) i)

  unit_noted : (u : UntypedUnit) → IsRead u → faults_of_declarations (whole_of u) [] 0 u.declarations ≡ [] →
      IsExternal (files_after [] u.declarations) →
      noted name number (uses_of_declarations (whole_of u) [] u.declarations) ≡ stands name number (names_used (definitions_of u))
  unit_noted u read none x =
      declarations_noted (whole_of u) [] 0 u.declarations x none read.declarations
      ∙ sym (list_any-append (refers_to name) (names_in_functions (typed_functions (whole_of u) [] u.declarations))
      (names_in_variables (typed_variables (whole_of u) [] u.declarations)))

-- ---- the names at file scope differ

pub no_names : IsDistinct bytes_eq []
unfolding IsDistinct
no_names = tt

pub names_after : (files : List File) (ds : List Declaration) → IsDistinct bytes_eq (names_of files) →
    IsDistinct bytes_eq (names_of (files_after files ds))
unfolding files_after
names_after files [] h = h
names_after files (d ∷ ds) h = names_after (declared_by d files) ds (apart _ files h)

other_by : (g f k : File) (b : Bool) (o : Option File) → bytes_eq k.name f.name ≡ b → bytes_eq g.name k.name ≡ false →
    (o ≡ Some f → bytes_eq g.name f.name ≡ false) → cond b (Some k) o ≡ Some f → bytes_eq g.name f.name ≡ false
other_by g f k true o same apart later h = ap (bytes_eq g.name) (sym (bytes_same k.name f.name same)) ∙ apart
other_by g f k false o same apart later h = later h

other_name : (g f : File) (files : List File) → AllByRecursion (λ y. bytes_eq g.name y ≡ false) (names_of files) →
    file_named f.name files ≡ Some f →
    bytes_eq g.name f.name ≡ false
other_name g f [] a h = cc
other_name g f (k ∷ ks) a h = other_by g f k (bytes_eq k.name f.name) (file_named f.name ks) refl a.0 (other_name g f ks a.1) h

-- ---- the list of names

chosen : (f : File) (xs : List File) (b : Bool) →
    (if b then external_name f ∷ map external_name xs else map external_name xs) ≡ map external_name (cond b (f ∷ xs) xs)
chosen f xs true = refl
chosen f xs false = refl

same_names : (references : List Ref) (used : List ℕ) (n : ℕ) (files : List File) → IsDistinct bytes_eq (names_of files) →
    ((f : File) → file_named f.name files ≡ Some f → is_kept_by_number used (n + file_number f.name files) f ≡ is_kept references f) →
    names_by_number used n files ≡ external_names references files
unfolding names_by_number IsDistinct
same_names references used n [] d same = refl
same_names references used n (g ∷ gs) d same =
    let itself = bytes_itself g.name in
    let at : n + file_number g.name (g ∷ gs) ≡ n =
    ap (λ b. n + cond (not b) (1 + file_number g.name gs) 0) itself ∙ (let e : n + 0 ≡ n = omega arith in e) in
    let first : is_kept_by_number used n g ≡ is_kept references g =
    subst (λ m. is_kept_by_number used m g ≡ is_kept references g) at (same g (ap (λ b. cond b (Some g) (file_named g.name gs)) itself)) in
    let later : names_by_number used (suc n) gs ≡ external_names references gs =
    same_names references used (suc n) gs d.1 (λ f h.
    let other = other_name g f gs d.0 h in
    let number : n + file_number f.name (g ∷ gs) ≡ suc n + file_number f.name gs =
    ap (λ b. n + cond (not b) (1 + file_number f.name gs) 0) other ∙ (let e : n + (1 + file_number f.name gs) ≡ suc n + file_number f.name gs = omega arith in e) in
    subst (λ m. is_kept_by_number used m f ≡ is_kept references f) number (same f (ap (λ b. cond b (Some g) (file_named f.name gs)) other ∙ h))) in
    (λ i. if first i then external_name g ∷ later i else later i) ∙ chosen g (filter (is_kept references) gs) (is_kept references g)

module _ (u : UntypedUnit) (read : IsRead u) (none : faults_of_declarations (whole_of u) [] 0 u.declarations ≡ []) where
  abbrev final : List File
  final = files_after [] u.declarations

  abbrev used : List ℕ
  used = uses_of_declarations (whole_of u) [] u.declarations

  abbrev references : List Ref
  references = names_used (definitions_of u)

  kept_by : (f : File) (external : Bool) → f.external ≡ external → file_named f.name final ≡ Some f →
      is_kept_by_number used (0 + file_number f.name final) f ≡ is_kept references f
  kept_by f true is there =
      ap (λ b. f.external && (f.defined || b)) (unit_noted f.name (0 + file_number f.name final) u read none
      (record { file = f; there = there; external = is; number_is = (let e : file_number f.name final ≡ 0 + file_number f.name final = omega arith in e) }))
  kept_by f false is there =
      ap (λ b. b && (f.defined || noted f.name (0 + file_number f.name final) used)) is
      ∙ sym (ap (λ b. b && (f.defined || stands f.name (0 + file_number f.name final) references)) is)

  pub typed_unit_is : unit_by_number u ≡ typed_unit u
  typed_unit_is =
      λ i. record {
        functions = typed_functions (whole_of u) [] u.declarations;
        variables = typed_variables (whole_of u) [] u.declarations;
        names = same_names references used 0 final (names_after [] u.declarations no_names) (λ f h. kept_by f f.external refl h) i;
      }
