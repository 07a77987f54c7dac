-- Which record the symbol of a reference has.
use Rattle.std.proofs.Common.{◌≡◌, ℕ, zero, suc, ◌+◌, ◌<◌, ◌≤◌, Bool, true, false, not, cond, if◌then◌else◌, List, [], ◌∷◌, ◌++◌, map, length, take, Option, Some, None, refl, sym, ap, ◌∙◌, subst, arith, bytes_eq, append-nil, append_assoc, nat_eq}
use Rattle.std.specs.Prelude.{slice_get, option_map, find, ◌&&◌, count_by}
use Rattle.std.specs.Option.{option_or}
use Rattle.std.specs.List.{AllByRecursion, enumerate_from, position_or_len}
use Rattle.std.proofs.lemmas.Bool.Decides.{nat_tests}
use Rattle.std.proofs.lemmas.List.{take_at, length_push, length-map, map-append}
use Rattle.std.proofs.lemmas.List.Folds.{find_at}
use Rattle.std.proofs.lemmas.List.Sums.{sum_by-append, sum_by-cons}
use Rattle.pw_base.specs.declared.kinds.Kind.TheVariants.{Program}
use Rattle.pw_tree.specs.declared.ty.Ref.TheVariants.{Global, LocalFun, LocalVar}
use Rattle.pw_tree.specs.declared.tunit.TVar.{TVar}
use Rattle.pw_tree.specs.declared.tunit.Ext.{Ext}
use Rattle.pw_tree.specs.Units.{Function, TypedUnit}
use Rattle.pw_tree.specs.WellTypedExpressions.{text_named}
use Rattle.pw_tree.specs.WellTypedUnits.{FunctionIsNamed, IsWellTyped}
use Rattle.pw_tree.specs.Names.{Entity, function, object, first_found, found, definition_of}
use Rattle.pw_module.specs.declared.dep_table.FunRec.{FunRec}
use Rattle.pw_code.specs.declared.object.FunCode.{FunCode}
use Rattle.pw_code.specs.Objects.{variables_in_order, function_object}
use Rattle.pw_place.specs.Names.{external_names}
use Rattle.pw_place.specs.Symbols.{static_functions, static_variables, static_function_number, external_number, symbol_number}
use Rattle.pw_place.specs.Tables.{function_record, function_records}
use Rattle.pw_image.specs.OneUnit.{project_of, objects_of, own_definition}
use Rattle.pw_image.specs.Records.{record_from, record_of, record_meant}
use Rattle.pw_image.specs.Laws.{ReferencesHaveRecords}
use Rattle.pw_image.proofs.Lists.{bytes_eq_sym}
use Rattle.pw_image.proofs.Names.{bytes_eq_is, bytes_eq_itself, find_same, found_passes}
use Rattle.pw_image.proofs.SymbolAddresses.{seek_function, seek_variable, meant_is, names_are}

-- ---- places of names in a list

-- Of two names, the first of which stands in a list, the places are one only where the names are.
same_place : (ns : List Ext) (a b : List ℕ) (n : Ext) → find (λ (m : Ext). bytes_eq a m.name) ns ≡ Some n →
    position_or_len (λ (m : Ext). bytes_eq a m.name) ns ≡ position_or_len (λ (m : Ext). bytes_eq b m.name) ns → a ≡ b
same_place ns a b n there same =
    let other : find (λ (m : Ext). bytes_eq b m.name) ns ≡ Some n =
    find_at (λ (m : Ext). bytes_eq b m.name) ns ∙ ap (slice_get ns) (sym same) ∙ sym (find_at (λ (m : Ext). bytes_eq a m.name) ns) ∙ there in
    bytes_eq_is a n.name (found_passes (λ (m : Ext). bytes_eq a m.name) ns n there)
    ∙ sym (bytes_eq_is b n.name (found_passes (λ (m : Ext). bytes_eq b m.name) ns n other))

pub differ : (a b : ℕ) → (a ≡ b → ⊥) → nat_eq a b ≡ false
differ a b h = by_test (nat_eq a b) refl
  where
    by_test : (t : Bool) → nat_eq a b ≡ t → nat_eq a b ≡ false
    by_test false e = e
    by_test true e = let same : a ≡ b = grind (arith, nat_tests) in absurd (h same)

alike : (a b : ℕ) → a ≡ b → nat_eq a b ≡ true
alike a b h = grind (arith, nat_tests)

abbrev is_static : FunCode → Bool
is_static f = not f.global

module _ (name : List ℕ) (unit : TypedUnit) where
  abbrev codes : List FunCode
  codes = map (function_object unit.variables) unit.functions

  abbrev pub outside : List ℕ → ℕ
  outside wanted = external_number Program (objects_of name unit) wanted

  abbrev inside : ℕ → ℕ
  inside i = static_function_number Program (objects_of name unit) 0 i

  inside_is : (before rest : List FunCode) → codes ≡ before ++ rest → inside (length before) ≡ 2 + static_functions before
  inside_is before rest split =
      ap (λ l. 2 + 0 + static_functions l) (ap (take (length before)) split ∙ take_at before rest (length before) refl)

  -- an external name's number is above those of static definitions
  outside_from : (wanted : List ℕ) → 2 + static_functions codes ≤ outside wanted
  outside_from wanted =
      let more : ℕ = static_variables (variables_in_order unit.variables) in
      let some : ℕ = static_functions codes in
      let at : ℕ = position_or_len (λ (m : Ext). bytes_eq wanted m.name) (external_names (objects_of name unit)) in
      least some more at
    where
      least : (s v n : ℕ) → 2 + s ≤ 2 + (0 + (s + v)) + n
      least s v n = omega arith

  one_static : (f : FunCode) → f.global ≡ false → (fs : List FunCode) → count_by is_static (f ∷ fs) ≡ 1 + count_by is_static fs
  one_static f e fs = sum_by-cons (λ (g : FunCode). cond (not g.global) 1 0) f fs ∙ ap (λ b. cond (not b) 1 0 + count_by is_static fs) e

  counted_before : (before : List FunCode) (f : FunCode) (rest : List FunCode) → codes ≡ before ++ (f ∷ rest) → f.global ≡ false →
      static_functions before + 1 ≤ static_functions codes
  counted_before before f rest split e =
      let all : static_functions codes ≡ static_functions before + static_functions (f ∷ rest) =
      ap static_functions split ∙ sum_by-append (λ (g : FunCode). cond (not g.global) 1 0) before (f ∷ rest) in
      omega (arith, one_static f e rest)

  -- ---- external names

  pub named_there : (f : Function) → FunctionIsNamed unit.names f → f.global ≡ true → (o : Option Ext) → find (λ (m : Ext). bytes_eq f.name m.name) unit.names ≡ o →
      (n : Ext) × (find (λ (m : Ext). bytes_eq f.name m.name) unit.names ≡ Some n)
  named_there f h e (Some n) is = (n, is)
  named_there f h e None is =
      let turned : find (λ (m : Ext). bytes_eq m.name f.name) unit.names ≡ None =
      find_same (λ (m : Ext). bytes_eq m.name f.name) (λ (m : Ext). bytes_eq f.name m.name) (λ m. bytes_eq_sym m.name f.name) unit.names ∙ is in
      let gone : text_named f.name unit.names ≡ None = ap (option_map (λ (m : Ext). m.text)) turned in
      let there = h e in cc

  test_is : IsWellTyped unit → (wanted : List ℕ) (before : List Function) (f : Function) (fs : List Function) → unit.functions ≡ before ++ (f ∷ fs) → FunctionIsNamed unit.names f →
      (g : Bool) → f.global ≡ g → nat_eq (if g then outside f.name else inside (length before)) (outside wanted) ≡ g && bytes_eq f.name wanted
  test_is well wanted before f fs split named true e = by_test (bytes_eq f.name wanted) refl
    where
      by_test : (t : Bool) → bytes_eq f.name wanted ≡ t → nat_eq (outside f.name) (outside wanted) ≡ bytes_eq f.name wanted
      by_test true t = alike (outside f.name) (outside wanted) (ap outside (bytes_eq_is f.name wanted t)) ∙ sym t
      by_test false t = differ (outside f.name) (outside wanted) apart ∙ sym t
        where
          apart : outside f.name ≡ outside wanted → ⊥
          apart same =
              let there = named_there f named e (find (λ (m : Ext). bytes_eq f.name m.name) unit.names) refl in
              let in_list : find (λ (m : Ext). bytes_eq f.name m.name) (external_names (objects_of name unit)) ≡ Some there.0 =
              ap (find (λ (m : Ext). bytes_eq f.name m.name)) (names_are name unit well.names_differ) ∙ there.1 in
              let one : f.name ≡ wanted = same_place (external_names (objects_of name unit)) f.name wanted there.0 in_list (omega arith) in
              let yes : bytes_eq f.name wanted ≡ true = ap (bytes_eq f.name) (sym one) ∙ bytes_eq_itself f.name in cc
  test_is well wanted before f fs split named false e =
      let codes_split : codes ≡ map (function_object unit.variables) before ++ (function_object unit.variables f ∷ map (function_object unit.variables) fs) =
      ap (map (function_object unit.variables)) split ∙ map-append (function_object unit.variables) before (f ∷ fs) in
      let here : inside (length before) ≡ 2 + static_functions (map (function_object unit.variables) before) =
      ap inside (sym (length-map before (function_object unit.variables)))
      ∙ inside_is (map (function_object unit.variables) before) (function_object unit.variables f ∷ map (function_object unit.variables) fs) codes_split in
      let few = counted_before (map (function_object unit.variables) before) (function_object unit.variables f) (map (function_object unit.variables) fs) codes_split e in
      let far = outside_from wanted in
      differ (inside (length before)) (outside wanted) (λ same. let below : outside wanted < outside wanted = omega arith in absurd (omega arith))

  symbol_by : (i : ℕ) (other : List ℕ) (g : Bool) → symbol_number Program (objects_of name unit) 0 (if g then Global other else LocalFun i) ≡ (if g then outside other else inside i)
  symbol_by i other true = refl
  symbol_by i other false = refl

  by_tests : (g b : Bool) (i : ℕ) (more : Option ℕ) (rest : Option Entity) → more ≡ record_meant rest →
      (if g && b then Some (i + 1) else more) ≡ record_meant (option_or (found g b (function (own_definition i))) rest)
  by_tests true true i more rest h = ap Some (let e : i + 1 ≡ suc i = omega arith in e)
  by_tests true false i more rest h = h
  by_tests false b i more rest h = h

  abbrev records_from : ℕ → List FunCode → List FunRec
  records_from i fs = map (function_record Program (objects_of name unit) 0) (enumerate_from i fs)

  among_records : IsWellTyped unit → (wanted : List ℕ) (fs before : List Function) → unit.functions ≡ before ++ fs → AllByRecursion (FunctionIsNamed unit.names) fs →
      record_from (length before + 1) (records_from (length before) (map (function_object unit.variables) fs)) (outside wanted)
      ≡ record_meant (first_found (seek_function name unit wanted) (length before) fs)
  among_records well wanted [] before split named = refl
  among_records well wanted (f ∷ fs) before split named =
      let i : ℕ = length before in
      let next : length (before ++ f ∷ []) ≡ i + 1 = length_push before f in
      let test : nat_eq (symbol_number Program (objects_of name unit) 0 (if f.global then Global f.name else LocalFun i)) (outside wanted) ≡ f.global && bytes_eq f.name wanted =
      ap (λ k. nat_eq k (outside wanted)) (symbol_by i f.name f.global) ∙ test_is well wanted before f fs split named.0 f.global refl in
      let more = among_records well wanted fs (before ++ f ∷ []) (split ∙ sym (append_assoc before (f ∷ []) fs)) named.1 in
      let later : record_from (i + 1 + 1) (records_from (i + 1) (map (function_object unit.variables) fs)) (outside wanted)
      ≡ record_meant (first_found (seek_function name unit wanted) (i + 1) fs) =
      subst (λ k. record_from (k + 1) (records_from k (map (function_object unit.variables) fs)) (outside wanted)
      ≡ record_meant (first_found (seek_function name unit wanted) k fs)) next more in
      ap (λ b. if b then Some (i + 1) else record_from (i + 1 + 1) (records_from (i + 1) (map (function_object unit.variables) fs)) (outside wanted)) test
      ∙ by_tests f.global (bytes_eq f.name wanted) i (record_from (i + 1 + 1) (records_from (i + 1) (map (function_object unit.variables) fs)) (outside wanted))
      (first_found (seek_function name unit wanted) (i + 1) fs) later

  no_record : (g b : Bool) (d : ℕ) (rest : Option Entity) → record_meant rest ≡ None → record_meant (option_or (found g b (object (own_definition d))) rest) ≡ None
  no_record true true d rest h = refl
  no_record true false d rest h = h
  no_record false b d rest h = h

  pub variables_without : (wanted : List ℕ) (i : ℕ) (xs : List TVar) → record_meant (first_found (seek_variable name unit wanted) i xs) ≡ None
  variables_without wanted i [] = refl
  variables_without wanted i (x ∷ xs) =
      no_record x.global (bytes_eq x.name wanted) i (first_found (seek_variable name unit wanted) (i + 1) xs) (variables_without wanted (i + 1) xs)

  either : (a b : Option Entity) → record_meant b ≡ None → record_meant a ≡ record_meant (option_or a b)
  either None b h = sym h
  either (Some e) b h = refl

  -- ---- static functions

  head_differs : (before : List FunCode) (h : FunCode) (middle : List FunCode) (f : FunCode) (rest : List FunCode) → codes ≡ before ++ (h ∷ (middle ++ (f ∷ rest))) → f.global ≡ false →
      (g : Bool) → h.global ≡ g → nat_eq (if g then outside h.name else inside (length before)) (2 + static_functions (before ++ (h ∷ middle))) ≡ false
  head_differs before h middle f rest split e g is =
      let longer : codes ≡ (before ++ (h ∷ middle)) ++ (f ∷ rest) = split ∙ sym (append_assoc before (h ∷ middle) (f ∷ rest)) in
      let few : static_functions (before ++ (h ∷ middle)) + 1 ≤ static_functions codes = counted_before (before ++ (h ∷ middle)) f rest longer e in
      by_linkage g is few
    where
      by_linkage : (g : Bool) → h.global ≡ g → static_functions (before ++ (h ∷ middle)) + 1 ≤ static_functions codes →
          nat_eq (if g then outside h.name else inside (length before)) (2 + static_functions (before ++ (h ∷ middle))) ≡ false
      by_linkage true is few = differ (outside h.name) (2 + static_functions (before ++ (h ∷ middle))) (λ same. let far = outside_from h.name in absurd (omega arith))
      by_linkage false is few =
          let here = inside_is before (h ∷ (middle ++ (f ∷ rest))) split in
          let more : static_functions (before ++ (h ∷ middle)) ≡ static_functions before + static_functions (h ∷ middle) =
          sum_by-append (λ (x : FunCode). cond (not x.global) 1 0) before (h ∷ middle) in
          let one = one_static h is middle in
          differ (inside (length before)) (2 + static_functions (before ++ (h ∷ middle))) (λ same. absurd (omega arith))

  local_from : (middle before : List FunCode) (f : FunCode) (rest : List FunCode) → codes ≡ before ++ (middle ++ (f ∷ rest)) → f.global ≡ false →
      record_from (length before + 1) (records_from (length before) (middle ++ (f ∷ rest))) (2 + static_functions (before ++ middle)) ≡ Some (suc (length before + length middle))
  local_from [] before f rest split e =
      let i : ℕ = length before in
      let symbol : symbol_number Program (objects_of name unit) 0 (if f.global then Global f.name else LocalFun i) ≡ 2 + static_functions (before ++ []) =
      symbol_by i f.name f.global ∙ ap (λ g. if g then outside f.name else inside i) e ∙ inside_is before (f ∷ rest) split
      ∙ ap (λ l. 2 + static_functions l) (sym (append-nil before)) in
      ap (λ b. if b then Some (i + 1) else record_from (i + 1 + 1) (records_from (i + 1) rest) (2 + static_functions (before ++ [])))
      (alike (symbol_number Program (objects_of name unit) 0 (if f.global then Global f.name else LocalFun i)) (2 + static_functions (before ++ [])) symbol)
      ∙ ap Some (let same : i + 1 ≡ suc (i + 0) = omega arith in same)
  local_from (h ∷ middle) before f rest split e =
      let i : ℕ = length before in
      let wanted : ℕ = 2 + static_functions (before ++ (h ∷ middle)) in
      let test : nat_eq (symbol_number Program (objects_of name unit) 0 (if h.global then Global h.name else LocalFun i)) wanted ≡ false =
      ap (λ k. nat_eq k wanted) (symbol_by i h.name h.global) ∙ head_differs before h middle f rest split e h.global refl in
      let next : length (before ++ h ∷ []) ≡ i + 1 = length_push before h in
      let more = local_from middle (before ++ h ∷ []) f rest (split ∙ sym (append_assoc before (h ∷ []) (middle ++ (f ∷ rest)))) e in
      let later : record_from (i + 1 + 1) (records_from (i + 1) (middle ++ (f ∷ rest))) (2 + static_functions ((before ++ h ∷ []) ++ middle)) ≡ Some (suc (i + 1 + length middle)) =
      subst (λ k. record_from (k + 1) (records_from k (middle ++ (f ∷ rest))) (2 + static_functions ((before ++ h ∷ []) ++ middle)) ≡ Some (suc (k + length middle))) next more in
      ap (λ b. if b then Some (i + 1) else record_from (i + 1 + 1) (records_from (i + 1) (middle ++ (f ∷ rest))) wanted) test
      ∙ ap (λ l. record_from (i + 1 + 1) (records_from (i + 1) (middle ++ (f ∷ rest))) (2 + static_functions l)) (sym (append_assoc before (h ∷ []) middle))
      ∙ later
      ∙ ap Some (let same : suc (i + 1 + length middle) ≡ suc (i + suc (length middle)) = omega arith in same)

-- a list parted at one of its elements
record Parted {X : Type 0} (xs : List X) (i : ℕ) (x : X) : Type 0 where
  before : List X
  rest : List X
  parts : xs ≡ before ++ (x ∷ rest)
  number : length before ≡ i

parted : {X : Type 0} (xs : List X) (i : ℕ) (x : X) → slice_get xs i ≡ Some x → Parted xs i x
parted [] i x h = cc
parted (y ∷ ys) zero x h = let same : y ≡ x = cc in record { before = []; rest = ys; parts = ap (λ z. z ∷ ys) same; number = refl }
parted (y ∷ ys) (suc i) x h =
    let p = parted ys i x h in record { before = y ∷ p.before; rest = p.rest; parts = ap (λ l. y ∷ l) p.parts; number = ap suc p.number }

static_record : (name : List ℕ) (unit : TypedUnit) (i : ℕ) (o : Option FunCode) → slice_get (codes name unit) i ≡ o → option_map (λ (f : FunCode). f.global) o ≡ Some false →
    record_from 1 (records_from name unit 0 (codes name unit)) (inside name unit i) ≡ Some (suc i)
static_record name unit i None there h = cc
static_record name unit i (Some f) there h =
    let p = parted (codes name unit) i f there in
    let static : f.global ≡ false = cc in
    let target : inside name unit i ≡ 2 + static_functions p.before = ap (inside name unit) (sym p.number) ∙ inside_is name unit p.before (f ∷ p.rest) p.parts in
    (λ q. record_from 1 (records_from name unit 0 (p.parts q)) (target q))
    ∙ local_from name unit p.before [] f p.rest p.parts static
    ∙ ap (λ n. Some (suc n)) (let e : 0 + length p.before ≡ length p.before = omega arith in e ∙ p.number)

-- the entry's record is of no other symbol
not_entry : (symbol : ℕ) → 2 ≤ symbol → nat_eq 1 symbol ≡ false
not_entry symbol h = grind (arith, nat_tests)

after_entry : (name : List ℕ) (unit : TypedUnit) (symbol : ℕ) → 2 ≤ symbol → (o : Option ℕ) → record_from 1 (records_from name unit 0 (codes name unit)) symbol ≡ o →
    record_of (function_records Program (objects_of name unit)) symbol ≡ o
after_entry name unit symbol h o there =
    ap (λ b. if b then Some 0 else record_from 1 (records_from name unit 0 (codes name unit) ++ []) symbol) (not_entry symbol h)
    ∙ ap (λ l. record_from 1 l symbol) (append-nil (records_from name unit 0 (codes name unit))) ∙ there

-- whatever the name designates
pub name_has_record : (name : List ℕ) (unit : TypedUnit) (wanted : List ℕ) → IsWellTyped unit →
    record_of (function_records Program (objects_of name unit)) (outside name unit wanted) ≡ record_meant (definition_of (project_of unit) wanted)
name_has_record name unit wanted well =
    let far = outside_from name unit wanted in
    after_entry name unit (outside name unit wanted) (omega arith)
    (record_meant (definition_of (project_of unit) wanted))
    (among_records name unit well wanted unit.functions [] refl well.functions_named
    ∙ either name unit (first_found (seek_function name unit wanted) 0 unit.functions) (first_found (seek_variable name unit wanted) 0 unit.variables)
    (variables_without name unit wanted 0 unit.variables)
    ∙ ap record_meant (sym (meant_is name unit wanted)))

pub references_have_records : ReferencesHaveRecords
references_have_records name unit (Global wanted) well known = name_has_record name unit wanted well
references_have_records name unit (LocalFun i) well known =
    after_entry name unit (inside name unit i) (from_two (static_functions (take i (codes name unit)))) (Some (suc i))
    (static_record name unit i (slice_get (codes name unit) i) refl known)
  where
    from_two : (n : ℕ) → 2 ≤ 2 + 0 + n
    from_two n = omega arith
references_have_records name unit (LocalVar i) well known = absurd known
