-- What names at file scope mean in the typed unit of a unit without faults: its functions and variables by number, and the
-- external names by their texts.
use Rattle.std.proofs.Common.{◌≡◌, ℕ, suc, ◌+◌, ◌-◌, ◌≤◌, Bool, true, false, ◌||◌, ◌&&◌, not, cond, if◌then◌else◌, List, [], ◌∷◌, ◌++◌, map, find, Option, Some, None, refl, sym, ap, subst, ◌∙◌, arith, inl, inr, ◌⊎◌, bytes_eq}
use Rattle.std.specs.Prelude.{⊤, option_and_then, slice_get, nat_eq}
use Rattle.std.specs.List.{list_any, AllByRecursion, IsDistinct, flat_map}
use Rattle.std.proofs.lemmas.List.{map-append}
use Rattle.pw_tree.specs.declared.ty.Ty.{Ty}
use Rattle.pw_tree.specs.declared.ty.Sig.{Sig}
use Rattle.pw_tree.specs.declared.ty.Ref.TheVariants.{Global, LocalFun, LocalVar}
use Rattle.pw_tree.specs.declared.tunit.TVar.{TVar}
use Rattle.pw_tree.specs.declared.decl.InitItem.{InitItem}
use Rattle.pw_tree.specs.Declarations.{Declaration, DeclarationForm, prototype, definition, variable, UntypedUnit}
use Rattle.pw_tree.specs.Units.{Function as TypedFunction, TypedUnit}
use Rattle.pw_tree.specs.WellTypedExpressions.{text_named, static_sig, NamesFunction, IsFunction, static_shape, NamesVariable, IsVariable}
use Rattle.pw_tree.specs.WellTypedUnits.{FunctionIsNamed, VariableIsNamed}
use Rattle.pw_types.specs.declared.rule.Rule.TheVariants as rules
use Rattle.pw_types.specs.declared.names.Kind.TheVariants.{Function, Variable}
use Rattle.pw_types.specs.declared.names.File.{File}
use Rattle.pw_types.specs.Scopes.{file_named, number_of, function_reference, variable_reference}
use Rattle.pw_types.specs.Steps.Uses.{file_number, names_by_number, uses_of_declarations}
use Rattle.pw_types.specs.Declarations.{Whole, file_scope, is_external, is_extern, defines, kind_of, first_of, declared_by}
use Rattle.pw_types.specs.Units.{function_in, variable_in, without, each_once, whole_of, files_after, is_function, lacks_definition, faults_of_lacking, typed_functions_of, typed_variable, typed_variables_of, typed_functions, typed_variables, text_of_kind}
use Rattle.pw_types.specs.Steps.CheckingUnits.{unit_by_number}
use Rattle.pw_types.specs.Steps.Texts.{HasText, HaveTexts}
use Rattle.pw_types.proofs.Fitting.{IsAmong, FilesFit}
use Rattle.pw_types.proofs.JoinedFiles.{names_of, Stays, stays}
use Rattle.pw_types.proofs.NamedTexts.{text_of_name, text_of_file}
use Rattle.pw_types.proofs.DefinedNames.{function_entry, variable_entry, function_entries, variable_entries, StandsIn, AreDefined}

-- ---- what stands at one moment stands at the end

stays_itself : (name : List ℕ) (f : File) (files : List File) → file_named name files ≡ Some f → Stays name f files files
stays_itself name f files h = record {
  now = f;
  there = h;
  same_name = refl;
  same_linkage = refl;
  same_kind = refl;
  same_number = refl;
  still_defined = λ d. d;
}

stays_further : (name : List ℕ) (f : File) (old new last : List File) (s : Stays name f old new) → Stays name s.now new last →
    Stays name f old last
stays_further name f old new last s t = record {
  now = t.now;
  there = t.there;
  same_name = t.same_name ∙ s.same_name;
  same_linkage = t.same_linkage ∙ s.same_linkage;
  same_kind = t.same_kind ∙ s.same_kind;
  same_number = t.same_number ∙ s.same_number;
  still_defined = λ d. t.still_defined (s.still_defined d);
}

pub stays_after : (name : List ℕ) (f : File) (files : List File) (ds : List Declaration) → file_named name files ≡ Some f →
    Stays name f files (files_after files ds)
unfolding files_after
stays_after name f files [] h = stays_itself name f files h
stays_after name f files (d ∷ ds) h =
    let s = stays name f (first_of d) files h in
    stays_further name f files (declared_by d files) (files_after (declared_by d files) ds) s
    (stays_after name s.now (declared_by d files) ds s.there)

module _ (w : Whole) (unit : TypedUnit) (used : List ℕ) (files : List File) (ds : List Declaration)
    (fit : FilesFit unit used (file_scope w (files_after files ds))) where
  same_function : (f g : File) → f.name ≡ g.name → f.external ≡ g.external →
      function_reference (file_scope w (files_after files ds)) f ≡ function_reference (file_scope w files) g
  same_function f g n e = λ i. if e i then Global (n i) else LocalFun (number_of (n i) w.functions)

  same_variable : (f g : File) → f.name ≡ g.name → f.external ≡ g.external →
      variable_reference (file_scope w (files_after files ds)) f ≡ variable_reference (file_scope w files) g
  same_variable f g n e = λ i. if e i then Global (n i) else LocalVar (number_of (n i) w.variables)

  own_there : (f : File) (s : Stays f.name f files (files_after files ds)) →
      file_named s.now.name (files_after files ds) ≡ Some s.now
  own_there f s = subst (λ n. file_named n (files_after files ds) ≡ Some s.now) (sym s.same_name) s.there

  own_number : (f : File) (s : Stays f.name f files (files_after files ds)) → IsAmong used (file_number f.name files) →
      IsAmong used (file_number s.now.name (files_after files ds))
  own_number f s u =
      subst (λ n. IsAmong used (file_number n (files_after files ds))) (sym s.same_name) (subst (IsAmong used) (sym s.same_number) u)

  -- names fit at each moment
  pub fit_before : FilesFit unit used (file_scope w files)
  fit_before = record {
    function = λ f sig there kind u.
        let s = stays_after f.name f files ds there in
        subst (λ r. IsFunction unit r sig) (same_function s.now f s.same_name s.same_linkage)
        (fit.function s.now sig (own_there f s) (s.same_kind ∙ kind) (own_number f s u));
    variable = λ f ty size there kind u.
        let s = stays_after f.name f files ds there in
        subst (λ r. IsVariable unit r (record { ty = ty; size = size })) (same_variable s.now f s.same_name s.same_linkage)
        (fit.variable s.now ty size (own_there f s) (s.same_kind ∙ kind) (own_number f s u));
  }

-- ---- entries of the typed unit

abbrev pub entry_of_function : TypedFunction → File
entry_of_function g = record { name = g.name; external = g.global; kind = Function g.sig; defined = true }

abbrev pub entry_of_variable : TVar → File
entry_of_variable x = record { name = x.name; external = x.global; kind = Variable x.ty x.count; defined = true }

function_entry_is : (w : Whole) (files : List File) (d : Declaration) (f : DeclarationForm) → d.form ≡ f →
    function_entry d f ≡ map entry_of_function (typed_functions_of w files d f)
function_entry_is w files d (definition result params body) is =
    λ i. record { name = d.name; external = is_external d.linkage; kind = kind_of (is i); defined = defines d.linkage (is i) } ∷ []
function_entry_is w files d (prototype result params) is = refl
function_entry_is w files d (variable ty size items) is = refl

variable_entry_by : (w : Whole) (files : List File) (d : Declaration) (ty : Ty) (size : Option ℕ) (items : Option (List InitItem)) (b : Bool) →
    d.form ≡ variable ty size items → is_extern d.linkage ≡ b →
    (if b then [] else first_of d ∷ []) ≡ map entry_of_variable (if b then [] else typed_variable w files d ty size items ∷ [])
variable_entry_by w files d ty size items true is e = refl
variable_entry_by w files d ty size items false is e =
    λ i. record { name = d.name; external = is_external d.linkage; kind = kind_of (is i); defined = defined_there i } ∷ []
  where
    defined_there : defines d.linkage d.form ≡ true
    defined_there = ap (defines d.linkage) is ∙ ap not e

variable_entry_is : (w : Whole) (files : List File) (d : Declaration) (f : DeclarationForm) → d.form ≡ f →
    variable_entry d f ≡ map entry_of_variable (typed_variables_of w files d f)
variable_entry_is w files d (variable ty size items) is = variable_entry_by w files d ty size items (is_extern d.linkage) is refl
variable_entry_is w files d (prototype result params) is = refl
variable_entry_is w files d (definition result params body) is = refl

pub function_entries_are : (w : Whole) (files : List File) (ds : List Declaration) →
    function_entries ds ≡ map entry_of_function (typed_functions w files ds)
unfolding typed_functions
function_entries_are w files [] = refl
function_entries_are w files (d ∷ ds) =
    (λ i. function_entry_is w (declared_by d files) d d.form refl i ++ function_entries_are w (declared_by d files) ds i)
    ∙ sym (map-append entry_of_function (typed_functions_of w (declared_by d files) d d.form) (typed_functions w (declared_by d files) ds))

pub variable_entries_are : (w : Whole) (files : List File) (ds : List Declaration) →
    variable_entries ds ≡ map entry_of_variable (typed_variables w files ds)
unfolding typed_variables
variable_entries_are w files [] = refl
variable_entries_are w files (d ∷ ds) =
    (λ i. variable_entry_is w (declared_by d files) d d.form refl i ++ variable_entries_are w (declared_by d files) ds i)
    ∙ sym (map-append entry_of_variable (typed_variables_of w (declared_by d files) d d.form) (typed_variables w (declared_by d files) ds))

-- ---- the names of a unit's functions and variables

function_name_is : (d : Declaration) (f : DeclarationForm) → d.form ≡ f → function_in d ≡ names_of (function_entry d f)
function_name_is d f is = ap function_in_by is ∙ by_form f
  where
    function_in_by : DeclarationForm → List (List ℕ)
    function_in_by f = function_in (record d { form = f })

    by_form : (f : DeclarationForm) → function_in (record d { form = f }) ≡ names_of (function_entry d f)
    by_form (definition result params body) = refl
    by_form (prototype result params) = refl
    by_form (variable ty size items) = refl

variable_choice : (d : Declaration) (b : Bool) → (if b then [] else d.name ∷ []) ≡ names_of (if b then [] else first_of d ∷ [])
variable_choice d true = refl
variable_choice d false = refl

variable_name_is : (d : Declaration) (f : DeclarationForm) → d.form ≡ f → variable_in d ≡ names_of (variable_entry d f)
variable_name_is d f is = ap variable_in_by is ∙ by_form f
  where
    variable_in_by : DeclarationForm → List (List ℕ)
    variable_in_by f = variable_in (record d { form = f })

    by_form : (f : DeclarationForm) → variable_in (record d { form = f }) ≡ names_of (variable_entry d f)
    by_form (variable ty size items) = variable_choice d (is_extern d.linkage)
    by_form (prototype result params) = refl
    by_form (definition result params body) = refl

function_names_are : (ds : List Declaration) → flat_map function_in ds ≡ names_of (function_entries ds)
function_names_are [] = refl
function_names_are (d ∷ ds) =
    (λ i. function_name_is d d.form refl i ++ function_names_are ds i)
    ∙ sym (map-append (λ (f : File). f.name) (function_entry d d.form) (function_entries ds))

variable_names_are : (ds : List Declaration) → flat_map variable_in ds ≡ names_of (variable_entries ds)
variable_names_are [] = refl
variable_names_are (d ∷ ds) =
    (λ i. variable_name_is d d.form refl i ++ variable_names_are ds i)
    ∙ sym (map-append (λ (f : File). f.name) (variable_entry d d.form) (variable_entries ds))

-- a list of names that differ has each once
left_out : (name : List ℕ) (names : List (List ℕ)) → AllByRecursion (λ y. bytes_eq name y ≡ false) names →
    without name names ≡ names
unfolding without
left_out name [] h = refl
left_out name (y ∷ ys) h = ap (λ b. if b then without name ys else y ∷ without name ys) h.0 ∙ ap (λ l. y ∷ l) (left_out name ys h.1)

once : (names : List (List ℕ)) → IsDistinct bytes_eq names → each_once names ≡ names
unfolding each_once IsDistinct
once [] h = refl
once (name ∷ names) h =
    ap (λ l. name ∷ l) (ap (without name) (once names h.1) ∙ left_out name names h.0)

left_apart : (xs ys : List (List ℕ)) → IsDistinct bytes_eq (xs ++ ys) → IsDistinct bytes_eq xs
unfolding IsDistinct
left_apart [] ys h = tt
left_apart (x ∷ xs) ys h = (left_all x xs ys h.0, left_apart xs ys h.1)
  where
    left_all : (x : List ℕ) (xs ys : List (List ℕ)) → AllByRecursion (λ y. bytes_eq x y ≡ false) (xs ++ ys) →
        AllByRecursion (λ y. bytes_eq x y ≡ false) xs
    left_all x [] ys h = tt
    left_all x (z ∷ zs) ys h = (h.0, left_all x zs ys h.1)

right_apart : (xs ys : List (List ℕ)) → IsDistinct bytes_eq (xs ++ ys) → IsDistinct bytes_eq ys
unfolding IsDistinct
right_apart [] ys h = h
right_apart (x ∷ xs) ys h = right_apart xs ys h.1

-- ---- a definition stands under its number

-- the item of a list whose entry is this
pub record ItemAt {A : Type 0} (entry_of : A → File) (items : List A) (n : ℕ) (entry : File) : Type 0 where
  pub item : A
  pub there : slice_get items n ≡ Some item
  pub is : entry_of item ≡ entry

item_by : {A : Type 0} (entry_of : A → File) (x : A) (xs : List A) (entry : File) (b : Bool) (o : Option File) (n : ℕ) →
    (o ≡ Some entry → ItemAt entry_of xs n entry) → cond b (Some (entry_of x)) o ≡ Some entry → ItemAt entry_of (x ∷ xs) (cond (not b) (1 + n) 0) entry
item_by entry_of x xs entry true o n later h = record { item = x; there = refl; is = (let e : entry_of x ≡ entry = cc in e) }
item_by entry_of x xs entry false o n later h =
    let r = later h in
    record { item = r.item; there = ap (slice_get (x ∷ xs)) (let e : 1 + n ≡ suc n = omega arith in e) ∙ r.there; is = r.is }

item_at : {A : Type 0} (entry_of : A → File) (name : List ℕ) (items : List A) (entry : File) →
    file_named name (map entry_of items) ≡ Some entry →
    ItemAt entry_of items (number_of name (names_of (map entry_of items))) entry
item_at entry_of name [] entry h = cc
item_at entry_of name (x ∷ xs) entry h =
    item_by entry_of x xs entry (bytes_eq (entry_of x).name name) _ _ (item_at entry_of name xs entry) h

-- ---- at the end

-- what does not lack a definition has one
not_lacking_by : (test : File → Bool) (f g : File) (o p : Option File) (t b : Bool) → test g ≡ t →
    (o ≡ None → p ≡ Some f → test f ≡ false) →
    cond t (Some g) o ≡ None → cond b (Some g) p ≡ Some f → test f ≡ false
not_lacking_by test f g o p true b is later h there = cc
not_lacking_by test f g o p false true is later h there = let e : g ≡ f = cc in sym (ap test e) ∙ is
not_lacking_by test f g o p false false is later h there = later h there

not_lacking : (test : File → Bool) (name : List ℕ) (files : List File) (f : File) → find test files ≡ None →
    file_named name files ≡ Some f → test f ≡ false
not_lacking test name [] f h there = cc
not_lacking test name (g ∷ gs) f h there =
    not_lacking_by test f g (find test gs) (file_named name gs) (test g) (bytes_eq g.name name) refl (not_lacking test name gs f) h there

pub none_lacks : (at : ℕ) (o : Option File) → faults_of_lacking at o ≡ [] → o ≡ None
none_lacks at None h = refl
none_lacks at (Some f) h = cc

has_definition : (k e d : Bool) → (k && not e && not d) ≡ false → k ≡ true → e ≡ false → d ≡ true
has_definition true false true h p q = refl
has_definition true false false h p q = cc
has_definition true true d h p q = cc
has_definition false e d h p q = cc

kept_by : (e d l : Bool) → e ≡ true → (d ≡ true) ⊎ (l ≡ true) → (e && (d || l)) ≡ true
kept_by true true l p q = refl
kept_by true false true p q = refl
kept_by true false false p (inl q) = cc
kept_by true false false p (inr q) = cc
kept_by false d l p q = cc

module _ (u : UntypedUnit) (texts : HaveTexts (files_after [] u.declarations))
    (lacking : find lacks_definition (files_after [] u.declarations) ≡ None)
    (a : AreDefined (files_after [] u.declarations) (function_entries u.declarations) (variable_entries u.declarations)) where
  abbrev w : Whole
  w = whole_of u

  abbrev final : List File
  final = files_after [] u.declarations

  abbrev used : List ℕ
  used = uses_of_declarations w [] u.declarations

  abbrev functions : List TypedFunction
  functions = typed_functions w [] u.declarations

  abbrev variables : List TVar
  variables = typed_variables w [] u.declarations

  numbers_of_functions : w.functions ≡ names_of (map entry_of_function functions)
  numbers_of_functions =
      ap each_once (function_names_are u.declarations)
      ∙ once (names_of (function_entries u.declarations)) (left_apart (names_of (function_entries u.declarations)) (names_of (variable_entries u.declarations)) a.apart)
      ∙ ap names_of (function_entries_are w [] u.declarations)

  numbers_of_variables : w.variables ≡ names_of (map entry_of_variable variables)
  numbers_of_variables =
      ap each_once (variable_names_are u.declarations)
      ∙ once (names_of (variable_entries u.declarations)) (right_apart (names_of (function_entries u.declarations)) (names_of (variable_entries u.declarations)) a.apart)
      ∙ ap names_of (variable_entries_are w [] u.declarations)

  external_text : (name : List ℕ) (f : File) → file_named name final ≡ Some f → f.external ≡ true →
      (f.defined ≡ true) ⊎ (list_any (λ n. nat_eq n (0 + file_number name final)) used ≡ true) →
      text_named name (names_by_number used 0 final) ≡ Some (text_of_kind f.kind)
  external_text name f there external why = text_of_name used name 0 f final there (kept_by f.external f.defined _ external why)

  use_at : (name : List ℕ) → IsAmong used (file_number name final) →
      list_any (λ n. nat_eq n (0 + file_number name final)) used ≡ true
  use_at name h = subst (IsAmong used) (let e : file_number name final ≡ 0 + file_number name final = omega arith in e) h

  static_function : (f : File) (sig : Sig) → file_named f.name final ≡ Some f → f.kind ≡ Function sig → f.external ≡ false →
      option_and_then static_sig (slice_get functions (number_of f.name w.functions)) ≡ Some sig
  static_function f sig there kind external =
      let defined : f.defined ≡ true =
      has_definition (is_function f.kind) f.external f.defined (not_lacking lacks_definition f.name final f lacking there) (ap is_function kind) external in
      let r = a.functions_found f.name f there defined (ap is_function kind) in
      let found : file_named f.name (map entry_of_function functions) ≡ Some r.entry =
      subst (λ l. file_named f.name l ≡ Some r.entry) (function_entries_are w [] u.declarations) r.there in
      let i = item_at entry_of_function f.name functions r.entry found in
      let static : i.item.global ≡ false = ap (λ (x : File). x.external) i.is ∙ r.linkage ∙ external in
      let same : Function i.item.sig ≡ Function sig = ap (λ (x : File). x.kind) i.is ∙ r.kind ∙ kind in
      let sig_is : i.item.sig ≡ sig = cc in
      ap (λ names. option_and_then static_sig (slice_get functions (number_of f.name names))) numbers_of_functions
      ∙ ap (option_and_then static_sig) i.there
      ∙ ap (λ b. if b then None else Some i.item.sig) static
      ∙ ap Some sig_is

  static_variable : (f : File) (ty : Ty) (size : Option ℕ) → file_named f.name final ≡ Some f → f.kind ≡ Variable ty size →
      f.external ≡ false →
      option_and_then static_shape (slice_get variables (number_of f.name w.variables)) ≡ Some (record { ty = ty; size = size })
  static_variable f ty size there kind external =
      let defined : f.defined ≡ true = a.statics f.name f there external (ap is_function kind) in
      let r = a.variables_found f.name f there defined (ap is_function kind) in
      let found : file_named f.name (map entry_of_variable variables) ≡ Some r.entry =
      subst (λ l. file_named f.name l ≡ Some r.entry) (variable_entries_are w [] u.declarations) r.there in
      let i = item_at entry_of_variable f.name variables r.entry found in
      let static : i.item.global ≡ false = ap (λ (x : File). x.external) i.is ∙ r.linkage ∙ external in
      let same : Variable i.item.ty i.item.count ≡ Variable ty size = ap (λ (x : File). x.kind) i.is ∙ r.kind ∙ kind in
      let ty_is : i.item.ty ≡ ty = cc in
      let size_is : i.item.count ≡ size = cc in
      ap (λ names. option_and_then static_shape (slice_get variables (number_of f.name names))) numbers_of_variables
      ∙ ap (option_and_then static_shape) i.there
      ∙ ap (λ b. if b then None else Some (record { ty = i.item.ty; size = i.item.count })) static
      ∙ (λ j. Some (record { ty = ty_is j; size = size_is j }))

  function_by : (f : File) (sig : Sig) (b : Bool) → f.external ≡ b → file_named f.name final ≡ Some f → f.kind ≡ Function sig →
      IsAmong used (file_number f.name final) → NamesFunction (unit_by_number u) (if b then Global f.name else LocalFun (number_of f.name w.functions)) sig
  function_by f sig true is there kind h = external_text f.name f there is (inr (use_at f.name h)) ∙ ap (λ k. Some (text_of_kind k)) kind
  function_by f sig false is there kind h = static_function f sig there kind is

  variable_by : (f : File) (ty : Ty) (size : Option ℕ) (b : Bool) → f.external ≡ b → file_named f.name final ≡ Some f →
      f.kind ≡ Variable ty size →
      IsAmong used (file_number f.name final) →
      NamesVariable (unit_by_number u) (if b then Global f.name else LocalVar (number_of f.name w.variables)) (record { ty = ty; size = size })
  variable_by f ty size true is there kind h = external_text f.name f there is (inr (use_at f.name h)) ∙ ap (λ k. Some (text_of_kind k)) kind
  variable_by f ty size false is there kind h = static_variable f ty size there kind is

  -- At the end, names at file scope mean the unit's functions and variables.
  pub fit_at_end : FilesFit (unit_by_number u) used (file_scope w final)
  fit_at_end = record {
    function = λ f sig there kind h. record {
      types = subst HasText kind (text_of_file f.name final f texts there);
      names = function_by f sig f.external refl there kind h;
    };
    variable = λ f ty size there kind h.
        let t : HasText (Variable ty size) = subst HasText kind (text_of_file f.name final f texts there) in
        record { type = t.0; size = t.1; names = variable_by f ty size f.external refl there kind h };
  }

  function_is_named : (g : TypedFunction) → StandsIn final (entry_of_function g) →
      FunctionIsNamed (names_by_number used 0 final) g
  function_is_named g s external =
      external_text g.name s.file s.there (sym s.linkage ∙ external) (inl s.defined) ∙ ap (λ k. Some (text_of_kind k)) (sym s.kind)

  variable_is_named : (x : TVar) → StandsIn final (entry_of_variable x) → VariableIsNamed (names_by_number used 0 final) x
  variable_is_named x s external =
      external_text x.name s.file s.there (sym s.linkage ∙ external) (inl s.defined) ∙ ap (λ k. Some (text_of_kind k)) (sym s.kind)

  pub functions_named : (gs : List TypedFunction) → AllByRecursion (StandsIn final) (map entry_of_function gs) →
      AllByRecursion (FunctionIsNamed (names_by_number used 0 final)) gs
  functions_named [] h = tt
  functions_named (g ∷ gs) h = (function_is_named g h.0, functions_named gs h.1)

  pub variables_named : (xs : List TVar) → AllByRecursion (StandsIn final) (map entry_of_variable xs) →
      AllByRecursion (VariableIsNamed (names_by_number used 0 final)) xs
  variables_named [] h = tt
  variables_named (x ∷ xs) h = (variable_is_named x h.0, variables_named xs h.1)

-- ---- the names of the entries

pub function_names : (gs : List TypedFunction) → names_of (map entry_of_function gs) ≡ map (λ g. g.name) gs
function_names [] = refl
function_names (g ∷ gs) = ap (λ l. g.name ∷ l) (function_names gs)

pub variable_names : (xs : List TVar) → names_of (map entry_of_variable xs) ≡ map (λ x. x.name) xs
variable_names [] = refl
variable_names (x ∷ xs) = ap (λ l. x.name ∷ l) (variable_names xs)
