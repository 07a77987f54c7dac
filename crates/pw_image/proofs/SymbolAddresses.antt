-- The address of an external name's symbol is that of what the name designates.
use Rattle.std.proofs.Common.{◌≡◌, ℕ, zero, suc, ◌+◌, ◌⊎◌, Bool, true, false, not, cond, List, [], ◌∷◌, ◌++◌, map, length, Option, Some, None, refl, sym, ap, ◌∙◌, subst, inl, inr, arith, bytes_eq, append-nil}
use Rattle.std.specs.Prelude.{slice_get, option_map, option_and_then, find, ◌&&◌, count_by}
use Rattle.std.specs.Option.{option_or, option_map_or}
use Rattle.std.specs.List.{AllByRecursion, IsDistinct, filter, enumerate_from, position_or_len}
use Rattle.std.proofs.lemmas.Option.{slice_get-map}
use Rattle.std.proofs.lemmas.List.{length-append}
use Rattle.std.proofs.lemmas.List.Elements.{filter-append}
use Rattle.std.proofs.lemmas.List.Folds.{find_at}
use Rattle.std.proofs.lemmas.List.Sums.{sum_by-cons}
use Rattle.pw_base.specs.declared.kinds.Kind.TheVariants.{Program}
use Rattle.pw_tree.specs.declared.ty.Ref.{Ref}
use Rattle.pw_tree.specs.declared.ty.Ref.TheVariants.{Global, LocalFun, LocalVar}
use Rattle.pw_tree.specs.declared.tunit.TVar.{TVar}
use Rattle.pw_tree.specs.declared.tunit.Ext.{Ext}
use Rattle.pw_tree.specs.Units.{Function, TypedUnit}
use Rattle.pw_tree.specs.TypeTexts.{text_of_function, text_of_variable}
use Rattle.pw_tree.specs.WellTypedExpressions.{text_named}
use Rattle.pw_tree.specs.WellTypedUnits.{FunctionIsNamed, VariableIsNamed, IsWellTyped}
use Rattle.pw_tree.specs.Names.{Entity, function, object, first_found, found, definition_of, resolved}
use Rattle.pw_code.specs.declared.object.FunCode.{FunCode}
use Rattle.pw_code.specs.Objects.{is_initialised, is_uninitialised, filled, variables_in_order, number_in_order, function_object}
use Rattle.pw_gen.proofs.Elements.{each_append, each_map, each_filter}
use Rattle.pw_gen.proofs.VariableOrder.{other_test}
use Rattle.pw_gen.proofs.DistinctNames.{distinct_right, distinct_parted}
use Rattle.pw_gen.proofs.References.{IsFunctionIn}
use Rattle.pw_module.specs.declared.symbol.Symbol.{Symbol}
use Rattle.pw_module.specs.declared.symbol.SymKind.TheVariants.{Undefined}
use Rattle.pw_place.specs.Names.{first_of_each, same_name, external_names}
use Rattle.pw_place.specs.Places.{function_start}
use Rattle.pw_place.specs.Symbols.{function_symbol, variable_symbol, static_symbols, external_symbol, symbols, static_functions, static_variables, static_definitions, external_number}
use Rattle.pw_place.specs.Contents.{relocation_to}
use Rattle.pw_agree.specs.Placing.{entity_address}
use Rattle.pw_image.specs.OneUnit.{project_of, objects_of, own_definition}
use Rattle.pw_image.specs.Relocated.{address_of_kind, symbol_address, relocation_value}
use Rattle.pw_image.proofs.Lists.{bytes_eq_sym, slice_behind}
use Rattle.pw_image.proofs.Functions.{functions_stand}
use Rattle.pw_image.proofs.Targets.{of_text}
use Rattle.pw_image.proofs.Variables.{stands_in_order, variables_stand}
use Rattle.pw_image.proofs.Names.{bytes_eq_is, bytes_eq_itself, find_in_both, or_none, find_same, found_passes, distinct_once}

abbrev pub kind_address : Symbol → ℕ
kind_address s = address_of_kind s.kind

-- the names of variables in an object's order differ as those of the unit do
names_filled : (xs : List TVar) → map (λ (x : TVar). x.name) (map filled xs) ≡ map (λ (x : TVar). x.name) xs
names_filled [] = refl
names_filled (x ∷ xs) = ap (λ l. x.name ∷ l) (names_filled xs)

map_both : {X Y : Type 0} (f : X → Y) (xs ys : List X) → map f (xs ++ ys) ≡ map f xs ++ map f ys
map_both f [] ys = refl
map_both f (x ∷ xs) ys = ap (λ l. f x ∷ l) (map_both f xs ys)

pub names_in_order_differ : (xs : List TVar) → IsDistinct bytes_eq (map (λ (x : TVar). x.name) xs) → IsDistinct bytes_eq (map (λ (x : TVar). x.name) (variables_in_order xs))
names_in_order_differ xs h =
    let whole : map (λ (x : TVar). x.name) (variables_in_order xs) ≡ map (λ (x : TVar). x.name) (filter is_initialised xs) ++ map (λ (x : TVar). x.name) (filter is_uninitialised xs) =
    map_both (λ (x : TVar). x.name) (map filled (filter is_initialised xs)) (filter is_uninitialised xs)
    ∙ ap (λ l. l ++ map (λ (x : TVar). x.name) (filter is_uninitialised xs)) (names_filled (filter is_initialised xs)) in
    subst (IsDistinct bytes_eq) (sym whole) (distinct_parted (λ (x : TVar). x.name) is_initialised is_uninitialised other_test xs h)

module _ (name : List ℕ) (unit : TypedUnit) (wanted : List ℕ) where
  abbrev pub entity_value : Entity → ℕ
  entity_value e = entity_address (project_of unit) (Some e)

  abbrev has_name : Symbol → Bool
  has_name s = s.global && bytes_eq s.name wanted

  abbrev variable_has : TVar → Bool
  variable_has x = x.global && bytes_eq x.name wanted

  abbrev pub seek_function : ℕ → Function → Option Entity
  seek_function i f = found f.global (bytes_eq f.name wanted) (function (own_definition i))

  abbrev pub seek_variable : ℕ → TVar → Option Entity
  seek_variable i x = found x.global (bytes_eq x.name wanted) (object (own_definition i))

  -- ---- functions

  by_tests : (g b : Bool) (s : Symbol) (e : Entity) (more : Option Symbol) (rest : Option Entity) → kind_address s ≡ entity_value e →
      option_map kind_address more ≡ option_map entity_value rest →
      option_map kind_address (cond (g && b) (Some s) more) ≡ option_map entity_value (option_or (found g b e) rest)
  by_tests true true s e more rest h k = ap Some h
  by_tests true false s e more rest h k = k
  by_tests false b s e more rest h k = k

  pub among_functions : (i : ℕ) (fs : List Function) →
      option_map kind_address (find has_name (map (function_symbol Program (objects_of name unit) 0) (enumerate_from i (map (function_object unit.variables) fs))))
      ≡ option_map entity_value (first_found seek_function i fs)
  among_functions i [] = refl
  among_functions i (f ∷ fs) =
      by_tests f.global (bytes_eq f.name wanted) (function_symbol Program (objects_of name unit) 0 (i, function_object unit.variables f)) (function (own_definition i))
      (find has_name (map (function_symbol Program (objects_of name unit) 0) (enumerate_from (i + 1) (map (function_object unit.variables) fs))))
      (first_found seek_function (i + 1) fs) (functions_stand name unit i) (among_functions (i + 1) fs)

  -- ---- variables

  -- the first variable of the unit that has the name
  record First (n : ℕ) (xs : List TVar) : Type 0 where
    i : ℕ
    x : TVar
    there : slice_get xs i ≡ Some x
    passes : variable_has x ≡ true
    is : first_found seek_variable n xs ≡ Some (object (own_definition (n + i)))

  abbrev NoneHas : ℕ → List TVar → Type 0
  NoneHas n xs = AllByRecursion (λ x. variable_has x ≡ false) xs × (first_found seek_variable n xs ≡ None)

  found_yes : (g b : Bool) (e : Entity) (rest : Option Entity) → g && b ≡ true → option_or (found g b e) rest ≡ Some e
  found_yes true true e rest h = refl
  found_yes true false e rest h = cc
  found_yes false b e rest h = cc

  found_no : (g b : Bool) (e : Entity) (rest : Option Entity) → g && b ≡ false → option_or (found g b e) rest ≡ rest
  found_no true true e rest h = cc
  found_no true false e rest h = refl
  found_no false b e rest h = refl

  first_of : (n : ℕ) (xs : List TVar) → First n xs ⊎ NoneHas n xs
  first_of n [] = inr (tt, refl)
  first_of n (x ∷ xs) = by_head (variable_has x) refl (first_of (n + 1) xs)
    where
      by_head : (b : Bool) → variable_has x ≡ b → First (n + 1) xs ⊎ NoneHas (n + 1) xs → First n (x ∷ xs) ⊎ NoneHas n (x ∷ xs)
      by_head true e rest = inl (record {
        i = 0;
        x = x;
        there = refl;
        passes = e;
        is = found_yes x.global (bytes_eq x.name wanted) (object (own_definition n)) (first_found seek_variable (n + 1) xs) e
            ∙ ap (λ k. Some (object (own_definition k))) (let h : n ≡ n + 0 = omega arith in h);
      })
      by_head false e (inl f) = inl (record {
        i = suc f.i;
        x = f.x;
        there = f.there;
        passes = f.passes;
        is = found_no x.global (bytes_eq x.name wanted) (object (own_definition n)) (first_found seek_variable (n + 1) xs) e
            ∙ f.is ∙ ap (λ k. Some (object (own_definition k))) (let h : n + 1 + f.i ≡ n + suc f.i = omega arith in h);
      })
      by_head false e (inr none) =
          inr ((e, none.0), found_no x.global (bytes_eq x.name wanted) (object (own_definition n)) (first_found seek_variable (n + 1) xs) e ∙ none.1)

  abbrev symbols_from : ℕ → List TVar → List Symbol
  symbols_from n ys = map (variable_symbol Program (objects_of name unit) 0) (enumerate_from n ys)

  -- where names differ, the one that has it is found
  finds_at : (n : ℕ) (ys : List TVar) (k : ℕ) (y : TVar) → IsDistinct bytes_eq (map (λ (x : TVar). x.name) ys) → slice_get ys k ≡ Some y → variable_has y ≡ true →
      find has_name (symbols_from n ys) ≡ Some (variable_symbol Program (objects_of name unit) 0 (n + k, y))
  unfolding IsDistinct
  finds_at n [] k y d h e = cc
  finds_at n (z ∷ ys) zero y d h e =
      let same : z ≡ y = cc in
      ap (λ b. cond b (Some (variable_symbol Program (objects_of name unit) 0 (n, z))) (find has_name (symbols_from (n + 1) ys))) (ap variable_has same ∙ e)
      ∙ (λ p. Some (variable_symbol Program (objects_of name unit) 0 ((let m : n ≡ n + 0 = omega arith in m) p, same p)))
  finds_at n (z ∷ ys) (suc k) y d h e =
      ap (λ b. cond b (Some (variable_symbol Program (objects_of name unit) 0 (n, z))) (find has_name (symbols_from (n + 1) ys))) (other (variable_has z) refl)
      ∙ finds_at (n + 1) ys k y d.1 h e
      ∙ ap (λ m. Some (variable_symbol Program (objects_of name unit) 0 (m, y))) (let m : n + 1 + k ≡ n + suc k = omega arith in m)
    where
      right : (g b : Bool) → g && b ≡ true → b ≡ true
      right true b t = t
      right false b t = cc

      lacks : (xs : List TVar) (j : ℕ) → AllByRecursion (λ b. bytes_eq z.name b ≡ false) (map (λ (x : TVar). x.name) xs) → slice_get xs j ≡ Some y → bytes_eq z.name y.name ≡ false
      lacks [] j l t = cc
      lacks (x ∷ xs) zero l t = let same : x ≡ y = cc in subst (λ (w : TVar). bytes_eq z.name w.name ≡ false) same l.0
      lacks (x ∷ xs) (suc j) l t = lacks xs j l.1 t

      other : (b : Bool) → variable_has z ≡ b → variable_has z ≡ false
      other false t = t
      other true t =
          let one : z.name ≡ wanted = bytes_eq_is z.name wanted (right z.global (bytes_eq z.name wanted) t) in
          let two : y.name ≡ wanted = bytes_eq_is y.name wanted (right y.global (bytes_eq y.name wanted) e) in
          let yes : bytes_eq z.name y.name ≡ true = ap (λ w. bytes_eq z.name w) (two ∙ sym one) ∙ bytes_eq_itself z.name in
          let no = lacks ys k d.0 h in cc

  finds_none : (n : ℕ) (ys : List TVar) → AllByRecursion (λ y. variable_has y ≡ false) ys → find has_name (symbols_from n ys) ≡ None
  finds_none n [] h = refl
  finds_none n (y ∷ ys) h =
      ap (λ b. cond b (Some (variable_symbol Program (objects_of name unit) 0 (n, y))) (find has_name (symbols_from (n + 1) ys))) h.0 ∙ finds_none (n + 1) ys h.1

  none_in_order : (xs : List TVar) → AllByRecursion (λ x. variable_has x ≡ false) xs → AllByRecursion (λ x. variable_has x ≡ false) (variables_in_order xs)
  none_in_order xs h =
      each_append (λ x. variable_has x ≡ false) (map filled (filter is_initialised xs)) (filter is_uninitialised xs)
      (each_map (λ x. variable_has x ≡ false) filled (filter is_initialised xs) (each_filter (λ x. variable_has x ≡ false) is_initialised xs h))
      (each_filter (λ x. variable_has x ≡ false) is_uninitialised xs h)

  pub among_variables : IsDistinct bytes_eq (map (λ (x : TVar). x.name) unit.variables) →
      option_map kind_address (find has_name (symbols_from 0 (variables_in_order unit.variables)))
      ≡ option_map entity_value (first_found seek_variable 0 unit.variables)
  among_variables d = by (first_of 0 unit.variables)
    where
      by : First 0 unit.variables ⊎ NoneHas 0 unit.variables →
          option_map kind_address (find has_name (symbols_from 0 (variables_in_order unit.variables)))
          ≡ option_map entity_value (first_found seek_variable 0 unit.variables)
      by (inl f) =
          let s = stands_in_order unit.variables variable_has (λ x. refl) f.i f.x f.there in
          let at : 0 + number_in_order unit.variables f.i ≡ number_in_order unit.variables f.i = omega arith in
          let at_too : 0 + f.i ≡ f.i = omega arith in
          ap (option_map kind_address) (finds_at 0 (variables_in_order unit.variables) (number_in_order unit.variables f.i) s.0 (names_in_order_differ unit.variables d) s.1 (s.2 ∙ f.passes)
          ∙ ap (λ k. Some (variable_symbol Program (objects_of name unit) 0 (k, s.0))) at)
          ∙ ap Some (variables_stand name unit f.i)
          ∙ ap (option_map entity_value) (sym (f.is ∙ ap (λ k. Some (object (own_definition k))) at_too))
      by (inr none) =
          ap (option_map kind_address) (finds_none 0 (variables_in_order unit.variables) (none_in_order unit.variables none.0))
          ∙ ap (option_map entity_value) (sym none.1)

  -- ---- both

  combined : (a b : Option Symbol) (c d : Option Entity) → option_map kind_address a ≡ option_map entity_value c → option_map kind_address b ≡ option_map entity_value d →
      option_map_or kind_address (option_or a b) 0 ≡ entity_address (project_of unit) (option_or c d)
  combined None None None None h k = refl
  combined None None None (Some e) h k = cc
  combined None (Some s) None None h k = cc
  combined None (Some s) None (Some e) h k = let same : kind_address s ≡ entity_value e = cc in same
  combined None b (Some e) d h k = cc
  combined (Some s) b None d h k = cc
  combined (Some s) b (Some e) d h k = let same : kind_address s ≡ entity_value e = cc in same

  abbrev defined : List Symbol
  defined =
      (map (function_symbol Program (objects_of name unit) 0) (enumerate_from 0 (map (function_object unit.variables) unit.functions))
      ++ symbols_from 0 (variables_in_order unit.variables)) ++ []

  abbrev pub meant : Option Entity
  meant = option_or (first_found seek_function 0 unit.functions) (first_found seek_variable 0 unit.variables)

  value_of_name : IsDistinct bytes_eq (map (λ (x : TVar). x.name) unit.variables) → option_map_or kind_address (find has_name defined) 0 ≡ entity_address (project_of unit) meant
  value_of_name d =
      let functions : List Symbol = map (function_symbol Program (objects_of name unit) 0) (enumerate_from 0 (map (function_object unit.variables) unit.functions)) in
      ap (λ l. option_map_or kind_address (find has_name l) 0) (append-nil (functions ++ symbols_from 0 (variables_in_order unit.variables)))
      ∙ ap (λ o. option_map_or kind_address o 0) (find_in_both has_name functions (symbols_from 0 (variables_in_order unit.variables)))
      ∙ combined (find has_name functions) (find has_name (symbols_from 0 (variables_in_order unit.variables)))
      (first_found seek_function 0 unit.functions) (first_found seek_variable 0 unit.variables) (among_functions 0 unit.functions) (among_variables d)

  pub meant_is : definition_of (project_of unit) wanted ≡ meant
  meant_is = or_none (option_or meant None) ∙ or_none meant

  -- ---- a name that stands in no list

  unnamed : (g : Bool) (other text : List ℕ) → (g ≡ true → text_named other unit.names ≡ Some text) → find (λ (n : Ext). bytes_eq wanted n.name) unit.names ≡ None →
      g && bytes_eq other wanted ≡ false
  unnamed false other text h none = refl
  unnamed true other text h none = by_test (bytes_eq other wanted) refl
    where
      by_test : (b : Bool) → bytes_eq other wanted ≡ b → bytes_eq other wanted ≡ false
      by_test false e = e
      by_test true e =
          let same : other ≡ wanted = bytes_eq_is other wanted e in
          let turned : find (λ (n : Ext). bytes_eq n.name wanted) unit.names ≡ None =
          find_same (λ (n : Ext). bytes_eq n.name wanted) (λ (n : Ext). bytes_eq wanted n.name) (λ n. bytes_eq_sym n.name wanted) unit.names ∙ none in
          let gone : text_named other unit.names ≡ None = ap (λ w. text_named w unit.names) same ∙ ap (option_map (λ (n : Ext). n.text)) turned in
          let there = h refl in cc

  no_function : (i : ℕ) (fs : List Function) → AllByRecursion (FunctionIsNamed unit.names) fs → find (λ (n : Ext). bytes_eq wanted n.name) unit.names ≡ None →
      first_found seek_function i fs ≡ None
  no_function i [] h none = refl
  no_function i (f ∷ fs) h none =
      found_no f.global (bytes_eq f.name wanted) (function (own_definition i)) (first_found seek_function (i + 1) fs)
      (unnamed f.global f.name (text_of_function f.sig) h.0 none)
      ∙ no_function (i + 1) fs h.1 none

  no_variable : (i : ℕ) (xs : List TVar) → AllByRecursion (VariableIsNamed unit.names) xs → find (λ (n : Ext). bytes_eq wanted n.name) unit.names ≡ None →
      first_found seek_variable i xs ≡ None
  no_variable i [] h none = refl
  no_variable i (x ∷ xs) h none =
      found_no x.global (bytes_eq x.name wanted) (object (own_definition i)) (first_found seek_variable (i + 1) xs)
      (unnamed x.global x.name (text_of_variable x.ty x.count) h.0 none)
      ∙ no_variable (i + 1) xs h.1 none

-- ---- the symbols of external names, by number

pub static_count : {X : Type 0} (symbol : ℕ × X → Symbol) (global : X → Bool) → ((i : ℕ) (x : X) → (symbol (i, x)).global ≡ global x) → (n : ℕ) (xs : List X) →
    length (filter (λ (s : Symbol). not s.global) (map symbol (enumerate_from n xs))) ≡ count_by (λ x. not (global x)) xs
static_count symbol global h n [] = refl
static_count symbol global h n (x ∷ xs) =
    counted (not (symbol (n, x)).global) (symbol (n, x)) (filter (λ (s : Symbol). not s.global) (map symbol (enumerate_from (n + 1) xs)))
    ∙ (λ p. cond (not (h n x p)) 1 0 + static_count symbol global h (n + 1) xs p)
    ∙ sym (sum_by-cons (λ y. cond (not (global y)) 1 0) x xs)
  where
    counted : (b : Bool) (s : Symbol) (ss : List Symbol) → length (cond b (s ∷ ss) ss) ≡ cond b 1 0 + length ss
    counted true s ss = omega arith
    counted false s ss = omega arith

module _ (name : List ℕ) (unit : TypedUnit) where
  filter_in_both : (xs ys : List Symbol) → filter (λ (s : Symbol). not s.global) (xs ++ ys) ≡ filter (λ (s : Symbol). not s.global) xs ++ filter (λ (s : Symbol). not s.global) ys
  filter_in_both xs ys = filter-append (λ (s : Symbol). not s.global) xs ys

  pub statics_counted : length (static_symbols Program (objects_of name unit)) ≡ static_definitions (objects_of name unit)
  statics_counted =
      let functions : List Symbol = map (function_symbol Program (objects_of name unit) 0) (enumerate_from 0 (map (function_object unit.variables) unit.functions)) in
      let variables : List Symbol = map (variable_symbol Program (objects_of name unit) 0) (enumerate_from 0 (variables_in_order unit.variables)) in
      let some : ℕ = static_functions (map (function_object unit.variables) unit.functions) in
      let more : ℕ = static_variables (variables_in_order unit.variables) in
      ap (λ l. length (filter (λ (s : Symbol). not s.global) l)) (append-nil (functions ++ variables))
      ∙ ap length (filter_in_both functions variables)
      ∙ length-append (filter (λ (s : Symbol). not s.global) functions) (filter (λ (s : Symbol). not s.global) variables)
      ∙ (λ p. static_count (function_symbol Program (objects_of name unit) 0) (λ (f : FunCode). f.global) (λ i f. refl) 0 (map (function_object unit.variables) unit.functions) p
      + static_count (variable_symbol Program (objects_of name unit) 0) (λ (x : TVar). x.global) (λ i x. refl) 0 (variables_in_order unit.variables) p)
      ∙ (let e : some + more ≡ 0 + (some + more) = omega arith in e)

  pub names_are : IsDistinct bytes_eq (map (λ (n : Ext). n.name) unit.names) → external_names (objects_of name unit) ≡ unit.names
  names_are d = ap (first_of_each same_name) (append-nil unit.names) ∙ distinct_once unit.names d

  pub at_external : IsDistinct bytes_eq (map (λ (n : Ext). n.name) unit.names) → (wanted : List ℕ) →
      slice_get (symbols Program (objects_of name unit)) (external_number Program (objects_of name unit) wanted)
      ≡ option_map Some (option_map (external_symbol Program (objects_of name unit)) (find (λ (n : Ext). bytes_eq wanted n.name) unit.names))
  at_external d wanted =
      let statics : List Symbol = static_symbols Program (objects_of name unit) in
      let names : List Ext = external_names (objects_of name unit) in
      let exts : List Symbol = map (external_symbol Program (objects_of name unit)) names in
      let nn : ℕ = position_or_len (λ (n : Ext). bytes_eq wanted n.name) names in
      let number : external_number Program (objects_of name unit) wanted ≡ suc (suc (length statics + nn)) =
      ap (λ k. 2 + k + nn) (sym statics_counted) ∙ (let e : 2 + length statics + nn ≡ suc (suc (length statics + nn)) = omega arith in e) in
      ap (slice_get (symbols Program (objects_of name unit))) number
      ∙ slice_get-map Some (statics ++ exts) (length statics + nn)
      ∙ ap (option_map Some) (slice_behind statics exts nn ∙ slice_get-map (external_symbol Program (objects_of name unit)) names nn
      ∙ ap (option_map (external_symbol Program (objects_of name unit))) (sym (find_at (λ (n : Ext). bytes_eq wanted n.name) names)
      ∙ ap (find (λ (n : Ext). bytes_eq wanted n.name)) (names_are d)))

  kind_by : (o : Option Symbol) → address_of_kind (option_map_or (λ (s : Symbol). s.kind) o Undefined) ≡ option_map_or kind_address o 0
  kind_by None = refl
  kind_by (Some s) = refl

  pub variables_differ : IsWellTyped unit → IsDistinct bytes_eq (map (λ (x : TVar). x.name) unit.variables)
  variables_differ h = distinct_right (map (λ (f : Function). f.name) unit.functions) (map (λ (x : TVar). x.name) unit.variables) h.definitions_differ

  by_entry : IsWellTyped unit → (wanted : List ℕ) (o : Option Ext) → find (λ (n : Ext). bytes_eq wanted n.name) unit.names ≡ o →
      option_map_or kind_address (option_and_then (λ (s : Option Symbol). s) (option_map Some (option_map (external_symbol Program (objects_of name unit)) o))) 0
      ≡ entity_address (project_of unit) (definition_of (project_of unit) wanted)
  by_entry h wanted None e =
      sym (ap (entity_address (project_of unit)) (meant_is name unit wanted
      ∙ (λ p. option_or (no_function name unit wanted 0 unit.functions h.functions_named e p) (no_variable name unit wanted 0 unit.variables h.variables_named e p))))
  by_entry h wanted (Some n) e =
      let same : wanted ≡ n.name = bytes_eq_is wanted n.name (found_passes (λ (m : Ext). bytes_eq wanted m.name) unit.names n e) in
      kind_by (find (has_name name unit n.name) (defined name unit n.name))
      ∙ ap (λ w. option_map_or kind_address (find (has_name name unit w) (defined name unit w)) 0) (sym same)
      ∙ value_of_name name unit wanted (variables_differ h)
      ∙ ap (entity_address (project_of unit)) (sym (meant_is name unit wanted))

  -- The address of an external name's symbol is that of what the name designates.
  pub address_of_name : IsWellTyped unit → (wanted : List ℕ) →
      symbol_address (symbols Program (objects_of name unit)) (external_number Program (objects_of name unit) wanted)
      ≡ entity_address (project_of unit) (definition_of (project_of unit) wanted)
  address_of_name h wanted =
      ap (λ o. option_map_or kind_address (option_and_then (λ (s : Option Symbol). s) o) 0) (at_external h.names_differ wanted)
      ∙ by_entry h wanted (find (λ (n : Ext). bytes_eq wanted n.name) unit.names) refl

  -- So a relocation puts the address of the function that an initialiser names.
  pub address_of_pointer : IsWellTyped unit → (f : Ref) → IsFunctionIn unit f →
      relocation_value (symbols Program (objects_of name unit)) (relocation_to Program (objects_of name unit) 0 f)
      ≡ entity_address (project_of unit) (resolved (project_of unit) 0 0 f)
  address_of_pointer h (Global wanted) k = address_of_name h wanted
  address_of_pointer h (LocalFun i) k = of_text (function_start Program (objects_of name unit) 0 i) ∙ functions_stand name unit i
  address_of_pointer h (LocalVar i) k = absurd k
