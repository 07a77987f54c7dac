-- The functions and variables that a unit without faults defines: each stands among the names at file scope with its kind and
-- linkage, and each name that is defined there is one of them.
use Rattle.std.proofs.Common.{◌≡◌, ℕ, ◌+◌, Bool, true, false, ◌||◌, ◌&&◌, not, cond, if◌then◌else◌, List, [], ◌∷◌, ◌++◌, Option, Some, None, refl, sym, ap, subst, ◌∙◌, inl, inr, ◌⊎◌, bytes_eq, append_assoc}
use Rattle.std.specs.Prelude.{⊤}
use Rattle.std.specs.List.{AllByRecursion, IsDistinct, flat_map}
use Rattle.std.proofs.lemmas.List.{append-nil}
use Rattle.std.proofs.lemmas.Bool.{cases_Bool}
use Rattle.pw_tree.specs.declared.decl.Linkage.{Linkage}
use Rattle.pw_tree.specs.declared.decl.Linkage.TheVariants.{Plain, Extern, Static}
use Rattle.pw_tree.specs.Declarations.{Declaration, DeclarationForm, prototype, definition, variable}
use Rattle.pw_types.specs.declared.rule.Rule.TheVariants as rules
use Rattle.pw_types.specs.declared.names.File.{File}
use Rattle.pw_types.specs.Faults.{broken, broken_by}
use Rattle.pw_types.specs.Reserved.{is_reserved}
use Rattle.pw_types.specs.Scopes.{file_named}
use Rattle.pw_types.specs.Declarations.{is_external, is_extern, defines, kind_of, conflicts, first_of, declared_by, is_redefined, Whole, elements_of, parameters_in, is_definition_of_function, is_too_large, file_scope}
use Rattle.pw_types.specs.Steps.UnitFaults.{faults_of_declaration, faults_of_parameters, faults_of_form, faults_of_declarations}
use Rattle.pw_types.specs.Units.{is_function, files_after}
use Rattle.pw_types.proofs.Empty.{left_empty, right_empty}
use Rattle.pw_types.proofs.NoFaults.{not_broken, not_broken_by}
use Rattle.pw_types.proofs.SameKinds.{no_conflict_linkage, no_conflict_kind}
use Rattle.pw_types.proofs.JoinedFiles.{bytes_same, bytes_itself, bytes_turned, joined_file, stays, named_now, named_other, names_of, all_lack, apart_last, names_append, find_before, find_last}

-- ---- what a declaration without faults does

pub record NoFaultOf (w : Whole) (files : List File) (elements : ℕ) (d : Declaration) : Type 0 where
  pub agrees : conflicts d (file_named d.name files) ≡ false
  pub first : is_redefined d (file_named d.name files) ≡ false
  pub params : faults_of_parameters (is_definition_of_function d.form) [] (parameters_in d.form) ≡ []
  pub large : is_too_large elements d ≡ false
  pub form : faults_of_form w.lines (file_scope w (declared_by d files)) d.form ≡ []

pub declares_well : (w : Whole) (files : List File) (elements : ℕ) (d : Declaration) →
    faults_of_declaration w files elements d ≡ [] → NoFaultOf w files elements d
unfolding faults_of_declaration
declares_well w files elements d none =
    let redeclared = broken_by rules.Redeclared d.name_at d.name (is_redefined d (file_named d.name files)) in
    let reserved = broken_by rules.Reserved d.name_at d.name (is_reserved d.name) in
    let params = faults_of_parameters (is_definition_of_function d.form) [] (parameters_in d.form) in
    let conflict = broken_by rules.Conflict d.declarator d.name (conflicts d (file_named d.name files)) in
    let large = broken rules.ArraySize d.declarator (is_too_large elements d) in
    let form = faults_of_form w.lines (file_scope w (declared_by d files)) d.form in
    let b : reserved ++ (params ++ (conflict ++ (large ++ form))) ≡ [] = right_empty redeclared _ none in
    let c : params ++ (conflict ++ (large ++ form)) ≡ [] = right_empty reserved _ b in
    let e : conflict ++ (large ++ form) ≡ [] = right_empty params _ c in
    let f : large ++ form ≡ [] = right_empty conflict _ e in
    record {
      agrees = not_broken_by rules.Conflict d.declarator d.name (conflicts d (file_named d.name files)) (left_empty conflict (large ++ form) e);
      first = not_broken_by rules.Redeclared d.name_at d.name (is_redefined d (file_named d.name files))
          (left_empty redeclared (reserved ++ (params ++ (conflict ++ (large ++ form)))) none);
      params = left_empty params (conflict ++ (large ++ form)) c;
      large = not_broken rules.ArraySize d.declarator (is_too_large elements d) (left_empty large form f);
      form = right_empty large form f;
    }

-- ---- entries

-- the definition of a function, as a name at file scope
abbrev pub function_entry : Declaration → DeclarationForm → List File
function_entry d (definition result params body) = first_of d ∷ []
function_entry d (prototype result params) = []
function_entry d (variable ty size init) = []

abbrev pub variable_entry : Declaration → DeclarationForm → List File
variable_entry d (variable ty size init) = if is_extern d.linkage then [] else first_of d ∷ []
variable_entry d (prototype result params) = []
variable_entry d (definition result params body) = []

abbrev pub function_entries : List Declaration → List File
function_entries ds = flat_map (λ d. function_entry d d.form) ds

abbrev pub variable_entries : List Declaration → List File
variable_entries ds = flat_map (λ d. variable_entry d d.form) ds

-- a definition stands among the names
pub record StandsIn (files : List File) (g : File) : Type 0 where
  pub file : File
  pub there : file_named g.name files ≡ Some file
  pub defined : file.defined ≡ true
  pub kind : g.kind ≡ file.kind
  pub linkage : g.external ≡ file.external

-- a name is one of the definitions
pub record FoundIn (name : List ℕ) (entries : List File) (f : File) : Type 0 where
  pub entry : File
  pub there : file_named name entries ≡ Some entry
  pub kind : entry.kind ≡ f.kind
  pub linkage : entry.external ≡ f.external

-- each name that is defined as such a kind is one of these
abbrev pub AreFound : Bool → List File → List File → Type 0
AreFound b files entries =
    (name : List ℕ) (f : File) → file_named name files ≡ Some f → f.defined ≡ true → is_function f.kind ≡ b → FoundIn name entries f

pub record AreDefined (files functions variables : List File) : Type 0 where
  pub apart : IsDistinct bytes_eq (names_of functions ++ names_of variables)
  pub functions_stand : AllByRecursion (StandsIn files) functions
  pub variables_stand : AllByRecursion (StandsIn files) variables
  pub functions_found : AreFound true files functions
  pub variables_found : AreFound false files variables
  -- a static variable is defined where it is declared
  pub statics : (name : List ℕ) (f : File) → file_named name files ≡ Some f → f.external ≡ false → is_function f.kind ≡ false →
      f.defined ≡ true

-- ---- one declaration

or_true : (b : Bool) → b || true ≡ true
or_true true = refl
or_true false = refl

or_false : (b : Bool) → b || false ≡ b
or_false true = refl
or_false false = refl

other_kind : {A : Type 0} (b : Bool) → b ≡ not b → A
other_kind true h = cc
other_kind false h = cc

-- a static variable's declaration defines it
static_defines : (l : Linkage) (f : DeclarationForm) → is_external l ≡ false → is_function (kind_of f) ≡ false →
    defines l f ≡ true
static_defines Static (variable ty size init) h k = refl
static_defines Static (prototype result params) h k = cc
static_defines Static (definition result params body) h k = cc
static_defines Plain f h k = cc
static_defines Extern f h k = cc

abbrev Lacks : List ℕ → List (List ℕ) → Type 0
Lacks name names = AllByRecursion (λ other. bytes_eq other name ≡ false) names

turned_lacks : (name : List ℕ) (names : List (List ℕ)) → Lacks name names → AllByRecursion (λ y. bytes_eq name y ≡ false) names
turned_lacks name [] h = tt
turned_lacks name (y ∷ ys) h = (bytes_turned name y ∙ h.0, turned_lacks name ys h.1)

put_in : (x name : List ℕ) (xs ys : List (List ℕ)) → AllByRecursion (λ y. bytes_eq x y ≡ false) (xs ++ ys) →
    bytes_eq x name ≡ false →
    AllByRecursion (λ y. bytes_eq x y ≡ false) (xs ++ name ∷ ys)
put_in x name [] ys h d = (d, h)
put_in x name (z ∷ zs) ys h d = (h.0, put_in x name zs ys h.1 d)

-- one name more between two lists
apart_between : (name : List ℕ) (xs ys : List (List ℕ)) → IsDistinct bytes_eq (xs ++ ys) → Lacks name xs → Lacks name ys →
    IsDistinct bytes_eq (xs ++ name ∷ ys)
unfolding IsDistinct
apart_between name [] ys h l m = (turned_lacks name ys m, h)
apart_between name (x ∷ xs) ys h l m = (put_in x name xs ys h.0 l.0, apart_between name xs ys h.1 l.1 m)

both_lack : (name : List ℕ) (xs ys : List (List ℕ)) → Lacks name xs → Lacks name ys → Lacks name (xs ++ ys)
both_lack name [] ys l m = m
both_lack name (x ∷ xs) ys l m = (l.0, both_lack name xs ys l.1 m)

module _ (w : Whole) (elements : ℕ) (d : Declaration) (files : List File) (good : NoFaultOf w files elements d) where
  abbrev now : File
  now = joined_file (first_of d) (file_named d.name files)

  now_there : file_named d.name (declared_by d files) ≡ Some now
  now_there = named_now (first_of d) files

  kind_by : (o : Option File) → conflicts d o ≡ false → (joined_file (first_of d) o).kind ≡ kind_of d.form
  kind_by None h = refl
  kind_by (Some f) h = no_conflict_kind d f h

  linkage_by : (o : Option File) → conflicts d o ≡ false → (joined_file (first_of d) o).external ≡ is_external d.linkage
  linkage_by None h = refl
  linkage_by (Some f) h = no_conflict_linkage d f h

  now_kind : now.kind ≡ kind_of d.form
  now_kind = kind_by (file_named d.name files) good.agrees

  now_linkage : now.external ≡ is_external d.linkage
  now_linkage = linkage_by (file_named d.name files) good.agrees

  defined_by : (o : Option File) → defines d.linkage d.form ≡ true → (joined_file (first_of d) o).defined ≡ true
  defined_by None h = h
  defined_by (Some f) h = ap (λ x. f.defined || x) h ∙ or_true f.defined

  now_defined : defines d.linkage d.form ≡ true → now.defined ≡ true
  now_defined h = defined_by (file_named d.name files) h

  -- where this declaration defines nothing, it was defined before
  record WasDefined : Type 0 where
    pub old : File
    pub there : file_named d.name files ≡ Some old
    pub defined : old.defined ≡ true
    pub kind : old.kind ≡ kind_of d.form
    pub linkage : old.external ≡ is_external d.linkage

  defined_before : (o : Option File) → file_named d.name files ≡ o → conflicts d o ≡ false → defines d.linkage d.form ≡ false →
      (joined_file (first_of d) o).defined ≡ true → WasDefined
  defined_before None is h lacking t = cc
  defined_before (Some f) is h lacking t = record {
    old = f;
    there = is;
    defined = sym (or_false f.defined) ∙ sym (ap (λ x. f.defined || x) lacking) ∙ t;
    kind = no_conflict_kind d f h;
    linkage = no_conflict_linkage d f h;
  }

  -- where it defines, it was not defined before
  undefined_by : (o : Option File) (f : File) → o ≡ Some f → is_redefined d o ≡ false → defines d.linkage d.form ≡ true →
      f.defined ≡ false
  undefined_by None f is h does = cc
  undefined_by (Some g) f is h does =
      let e : g ≡ f = cc in
      subst (λ (x : File). x.defined ≡ false) e (sym (ap (λ x. x && g.defined) does) ∙ h)

  lacks_by : {A : Type 0} (g : File) → bytes_eq g.name d.name ≡ true → StandsIn files g → defines d.linkage d.form ≡ true → A
  lacks_by g same s does =
      let there : file_named d.name files ≡ Some s.file = subst (λ n. file_named n files ≡ Some s.file) (bytes_same g.name d.name same) s.there in
      let lacking : s.file.defined ≡ false = undefined_by (file_named d.name files) s.file there good.first does in
      let c : true ≡ false = sym s.defined ∙ lacking in cc

  -- so no definition has its name
  lacks : (entries : List File) → AllByRecursion (StandsIn files) entries → defines d.linkage d.form ≡ true →
      file_named d.name entries ≡ None
  lacks [] h does = refl
  lacks (g ∷ gs) h does = elim (cases_Bool (bytes_eq g.name d.name)) [
    | inl same ↦ lacks_by g same h.0 does
    | inr other ↦ ap (λ b. cond b (Some g) (file_named d.name gs)) other ∙ lacks gs h.1 does
  ]

  -- definitions stand further
  stands_later : (g : File) → StandsIn files g → StandsIn (declared_by d files) g
  stands_later g s =
      let t = stays g.name s.file (first_of d) files s.there in
      record {
        file = t.now;
        there = t.there;
        defined = t.still_defined s.defined;
        kind = s.kind ∙ sym t.same_kind;
        linkage = s.linkage ∙ sym t.same_linkage;
      }

  all_stand_later : (entries : List File) → AllByRecursion (StandsIn files) entries →
      AllByRecursion (StandsIn (declared_by d files)) entries
  all_stand_later [] h = tt
  all_stand_later (g ∷ gs) h = (stands_later g h.0, all_stand_later gs h.1)

  -- and this one stands
  stands_now : defines d.linkage d.form ≡ true → StandsIn (declared_by d files) (first_of d)
  stands_now does = record {
    file = now;
    there = now_there;
    defined = now_defined does;
    kind = sym now_kind;
    linkage = sym now_linkage;
  }

  all_stand_now : (entries : List File) → AllByRecursion (StandsIn files) entries → defines d.linkage d.form ≡ true →
      AllByRecursion (StandsIn (declared_by d files)) (entries ++ first_of d ∷ [])
  all_stand_now [] h does = (stands_now does, tt)
  all_stand_now (g ∷ gs) h does = (stands_later g h.0, all_stand_now gs h.1 does)

  -- a file that stands under the declared name is the one that the declaration left
  is_now : (name : List ℕ) (f : File) → bytes_eq d.name name ≡ true → file_named name (declared_by d files) ≡ Some f → now ≡ f
  is_now name f same h =
      let there : file_named d.name (declared_by d files) ≡ Some f =
      subst (λ n. file_named n (declared_by d files) ≡ Some f) (sym (bytes_same d.name name same)) h in
      let e : Some now ≡ Some f = sym now_there ∙ there in
      cc

  is_old : (name : List ℕ) (f : File) → bytes_eq d.name name ≡ false → file_named name (declared_by d files) ≡ Some f →
      file_named name files ≡ Some f
  is_old name f other h = sym (named_other name (first_of d) files other) ∙ h

  -- where no definition of such a kind is added
  found_before_now : (b : Bool) (entries : List File) (name : List ℕ) → AreFound b files entries → bytes_eq d.name name ≡ true →
      defines d.linkage d.form ≡ false → now.defined ≡ true → is_function now.kind ≡ b → FoundIn name entries now
  found_before_now b entries name found same lacking defined kind =
      let w = defined_before (file_named d.name files) refl good.agrees lacking defined in
      let r = found d.name w.old w.there w.defined (ap is_function (w.kind ∙ sym now_kind) ∙ kind) in
      record {
        entry = r.entry;
        there = subst (λ n. file_named n entries ≡ Some r.entry) (bytes_same d.name name same) r.there;
        kind = r.kind ∙ w.kind ∙ sym now_kind;
        linkage = r.linkage ∙ w.linkage ∙ sym now_linkage;
      }

  is_now_found : (b : Bool) (entries : List File) (name : List ℕ) (f : File) → now ≡ f →
      (now.defined ≡ true → is_function now.kind ≡ b → FoundIn name entries now) →
      f.defined ≡ true → is_function f.kind ≡ b → FoundIn name entries f
  is_now_found b entries name f e h defined kind =
      subst (FoundIn name entries) e
      (h (subst (λ (x : File). x.defined ≡ true) (sym e) defined) (subst (λ (x : File). is_function x.kind ≡ b) (sym e) kind))

  found_kept : (b : Bool) (entries : List File) → AreFound b files entries →
      (defines d.linkage d.form ≡ false) ⊎ (is_function (kind_of d.form) ≡ not b) →
      AreFound b (declared_by d files) entries
  found_kept b entries found why name f there defined kind = elim (cases_Bool (bytes_eq d.name name)) [
    | inl same ↦ elim why [
      | inl lacking ↦ is_now_found b entries name f (is_now name f same there) (found_before_now b entries name found same lacking) defined kind
      | inr other ↦ is_now_found b entries name f (is_now name f same there) (λ x y. other_kind b (sym y ∙ ap is_function now_kind ∙ other)) defined kind
    ]
    | inr other ↦ found name f (is_old name f other there) defined kind
  ]

  -- where this declaration adds one
  found_added : (b : Bool) (entries : List File) → AreFound b files entries → AllByRecursion (StandsIn files) entries →
      defines d.linkage d.form ≡ true →
      AreFound b (declared_by d files) (entries ++ first_of d ∷ [])
  found_added b entries found stand does name f there defined kind = elim (cases_Bool (bytes_eq d.name name)) [
    | inl same ↦ is_now_found b (entries ++ first_of d ∷ []) name f (is_now name f same there) (λ x y. record {
      entry = first_of d;
      there = subst (λ n. file_named n (entries ++ first_of d ∷ []) ≡ Some (first_of d)) (bytes_same d.name name same)
          (find_last d.name entries (first_of d) (lacks entries stand does) ∙ ap (λ b. cond b (Some (first_of d)) None) (bytes_itself d.name));
      kind = sym now_kind;
      linkage = sym now_linkage;
    }) defined kind
    | inr other ↦ later (found name f (is_old name f other there) defined kind)
  ]
    where
      later : FoundIn name entries f → FoundIn name (entries ++ first_of d ∷ []) f
      later r = record { entry = r.entry; there = find_before name entries (first_of d) r.entry r.there; kind = r.kind; linkage = r.linkage }

  statics_later : ((name : List ℕ) (f : File) → file_named name files ≡ Some f → f.external ≡ false → is_function f.kind ≡ false → f.defined ≡ true) →
      (name : List ℕ) (f : File) → file_named name (declared_by d files) ≡ Some f → f.external ≡ false → is_function f.kind ≡ false → f.defined ≡ true
  statics_later old name f there external kind = elim (cases_Bool (bytes_eq d.name name)) [
    | inl same ↦
        let e : now ≡ f = is_now name f same there in
        let static : is_external d.linkage ≡ false = sym now_linkage ∙ subst (λ (x : File). x.external ≡ false) (sym e) external in
        let no_function : is_function (kind_of d.form) ≡ false =
        sym (ap is_function now_kind) ∙ subst (λ (x : File). is_function x.kind ≡ false) (sym e) kind in
        subst (λ (x : File). x.defined ≡ true) e (now_defined (static_defines d.linkage d.form static no_function))
    | inr other ↦ old name f (is_old name f other there) external kind
  ]

  module _ (functions variables : List File) (a : AreDefined files functions variables) where
    -- nothing is added
    adds_none : defines d.linkage d.form ≡ false → AreDefined (declared_by d files) functions variables
    adds_none lacking = record {
      apart = a.apart;
      functions_stand = all_stand_later functions a.functions_stand;
      variables_stand = all_stand_later variables a.variables_stand;
      functions_found = found_kept true functions a.functions_found (inl lacking);
      variables_found = found_kept false variables a.variables_found (inl lacking);
      statics = statics_later a.statics;
    }

    adds_function : defines d.linkage d.form ≡ true → is_function (kind_of d.form) ≡ true →
        AreDefined (declared_by d files) (functions ++ first_of d ∷ []) variables
    adds_function does is = record {
      apart = subst (λ l. IsDistinct bytes_eq l)
          (sym (ap (λ l. l ++ names_of variables) (names_append functions (first_of d)) ∙ append_assoc (names_of functions) (d.name ∷ []) (names_of variables)))
          (apart_between d.name (names_of functions) (names_of variables) a.apart
          (all_lack d.name functions (lacks functions a.functions_stand does)) (all_lack d.name variables (lacks variables a.variables_stand does)));
      functions_stand = all_stand_now functions a.functions_stand does;
      variables_stand = all_stand_later variables a.variables_stand;
      functions_found = found_added true functions a.functions_found a.functions_stand does;
      variables_found = found_kept false variables a.variables_found (inr is);
      statics = statics_later a.statics;
    }

    adds_variable : defines d.linkage d.form ≡ true → is_function (kind_of d.form) ≡ false →
        AreDefined (declared_by d files) functions (variables ++ first_of d ∷ [])
    adds_variable does is = record {
      apart = subst (λ l. IsDistinct bytes_eq l)
          (sym (ap (λ l. names_of functions ++ l) (names_append variables (first_of d)) ∙ sym (append_assoc (names_of functions) (names_of variables) (d.name ∷ []))))
          (apart_last d.name (names_of functions ++ names_of variables) a.apart
          (both_lack d.name (names_of functions) (names_of variables)
          (all_lack d.name functions (lacks functions a.functions_stand does)) (all_lack d.name variables (lacks variables a.variables_stand does))));
      functions_stand = all_stand_later functions a.functions_stand;
      variables_stand = all_stand_now variables a.variables_stand does;
      functions_found = found_kept true functions a.functions_found (inr is);
      variables_found = found_added false variables a.variables_found a.variables_stand does;
      statics = statics_later a.statics;
    }

    unchanged : AreDefined (declared_by d files) functions variables →
        AreDefined (declared_by d files) (functions ++ []) (variables ++ [])
    unchanged h =
        subst (λ l. AreDefined (declared_by d files) l (variables ++ [])) (sym (append-nil functions))
        (subst (λ l. AreDefined (declared_by d files) functions l) (sym (append-nil variables)) h)

    adds_by : (f : DeclarationForm) → d.form ≡ f →
        AreDefined (declared_by d files) (functions ++ function_entry d f) (variables ++ variable_entry d f)
    adds_by (prototype result params) is = unchanged (adds_none (ap (defines d.linkage) is))
    adds_by (definition result params body) is =
        subst (λ l. AreDefined (declared_by d files) (functions ++ first_of d ∷ []) l) (sym (append-nil variables))
        (adds_function (ap (defines d.linkage) is) (ap (λ f. is_function (kind_of f)) is))
    adds_by (variable ty size init) is = elim (cases_Bool (is_extern d.linkage)) [
      | inl extern ↦
          subst (λ b. AreDefined (declared_by d files) (functions ++ []) (variables ++ (if b then [] else first_of d ∷ []))) (sym extern)
          (unchanged (adds_none (ap (defines d.linkage) is ∙ ap not extern)))
      | inr defined ↦
          subst (λ b. AreDefined (declared_by d files) (functions ++ []) (variables ++ (if b then [] else first_of d ∷ []))) (sym defined)
          (subst (λ l. AreDefined (declared_by d files) l (variables ++ first_of d ∷ [])) (sym (append-nil functions))
          (adds_variable (ap (defines d.linkage) is ∙ ap not defined) (ap (λ f. is_function (kind_of f)) is)))
    ]

-- ---- all declarations

pub all_defined : (w : Whole) (files : List File) (elements : ℕ) (ds : List Declaration) (functions variables : List File) →
    faults_of_declarations w files elements ds ≡ [] → AreDefined files functions variables →
    AreDefined (files_after files ds) (functions ++ function_entries ds) (variables ++ variable_entries ds)
unfolding faults_of_declarations files_after
all_defined w files elements [] functions variables none a =
    subst (λ l. AreDefined files l (variables ++ [])) (sym (append-nil functions))
    (subst (λ l. AreDefined files functions l) (sym (append-nil variables)) a)
all_defined w files elements (d ∷ ds) functions variables none a =
    let here = adds_by w elements d files (declares_well w files elements d (left_empty _ _ none)) functions variables a d.form refl in
    let f = function_entry d d.form in
    let v = variable_entry d d.form in
    let later = all_defined w (declared_by d files) (elements + elements_of d) ds (functions ++ f) (variables ++ v) (right_empty _ _ none) here in
    subst (λ l. AreDefined (files_after (declared_by d files) ds) l (variables ++ (v ++ variable_entries ds))) (append_assoc functions f (function_entries ds))
    (subst (λ l. AreDefined (files_after (declared_by d files) ds) ((functions ++ f) ++ function_entries ds) l) (append_assoc variables v (variable_entries ds)) later)

-- at the start there are none
pub none_defined : AreDefined [] [] []
unfolding IsDistinct
none_defined = record {
  apart = tt;
  functions_stand = tt;
  variables_stand = tt;
  functions_found = λ name f there defined kind. cc;
  variables_found = λ name f there defined kind. cc;
  statics = λ name f there external kind. cc;
}
