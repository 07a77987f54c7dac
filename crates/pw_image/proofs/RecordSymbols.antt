-- The symbol of a function's record has the function's name.
use Rattle.std.proofs.Common.{◌≡◌, ℕ, zero, suc, ◌+◌, Bool, true, false, not, if◌then◌else◌, List, [], ◌∷◌, ◌++◌, map, length, take, get_or, Option, Some, None, refl, sym, ap, ◌∙◌, subst, arith, append-nil, bytes_eq}
use Rattle.std.specs.Prelude.{slice_get, option_map, find}
use Rattle.std.specs.List.{All, filter, enumerate_from}
use Rattle.std.proofs.lemmas.Option.{slice_get-map, slice_get-get_or}
use Rattle.std.proofs.lemmas.List.Elements.{filter-append}
use Rattle.pw_base.specs.declared.kinds.Kind.TheVariants.{Program}
use Rattle.pw_tree.specs.declared.ty.Ref.TheVariants.{Global, LocalFun}
use Rattle.pw_tree.specs.declared.tunit.Ext.{Ext}
use Rattle.pw_tree.specs.Units.{Function, TypedUnit}
use Rattle.pw_tree.specs.WellTypedUnits.{FunctionIsNamed, IsWellTyped}
use Rattle.pw_code.specs.declared.object.FunCode.{FunCode}
use Rattle.pw_code.specs.Objects.{variables_in_order, function_object}
use Rattle.pw_module.specs.declared.symbol.Symbol.{Symbol}
use Rattle.pw_module.specs.declared.dep_table.FunRec.{FunRec}
use Rattle.pw_place.specs.Names.{external_names}
use Rattle.pw_place.specs.Symbols.{function_symbol, variable_symbol, static_symbols, external_symbol, symbols, static_functions, static_function_number, external_number, symbol_number, ref_of_function}
use Rattle.pw_place.specs.Tables.{function_record, function_records}
use Rattle.pw_place.proofs.Enumerated.{get_made}
use Rattle.pw_image.specs.OneUnit.{objects_of}
use Rattle.pw_image.specs.Reported.{HasSymbol}
use Rattle.pw_image.specs.Laws.{RecordsHaveSymbols}
use Rattle.pw_image.proofs.Lists.{among_passed, slice_front}
use Rattle.pw_image.proofs.Names.{bytes_eq_is, found_passes}
use Rattle.pw_image.proofs.SymbolAddresses.{static_count, at_external}
use Rattle.pw_image.proofs.Records.{named_there}
use Rattle.pw_image.proofs.Dependencies.{at_place}

-- ---- lists with numbers

take_made : {X Y : Type 0} (f : ℕ × X → Y) (n : ℕ) (xs : List X) (i : ℕ) →
    take i (map f (enumerate_from n xs)) ≡ map f (enumerate_from n (take i xs))
take_made f n xs zero = refl
take_made f n [] (suc i) = refl
take_made f n (x ∷ xs) (suc i) = ap (λ l. f (n, x) ∷ l) (take_made f (n + 1) xs i)

-- what holds of the item of each number holds of all
all_by_number : {X : Type 0} (P : X → Type 0) (xs : List X) → ((i : ℕ) (x : X) → slice_get xs i ≡ Some x → P x) → All P xs
all_by_number P xs h = λ i d within. h i (get_or xs i d) (slice_get-get_or xs i d within)

-- A symbol of this name has this number.
pub record IsSymbolOf (symbols : List (Option Symbol)) (n : ℕ) (name : List ℕ) : Type 0 where
  pub symbol : Symbol
  pub there : slice_get symbols n ≡ Some (Some symbol)
  pub name_is : symbol.name ≡ name

abbrev is_static : Symbol → Bool
is_static s = not s.global

module _ (name : List ℕ) (unit : TypedUnit) where
  abbrev all : List (Option Symbol)
  all = symbols Program (objects_of name unit)

  abbrev code_of : Function → FunCode
  code_of f = function_object unit.variables f

  abbrev codes_of_unit : List FunCode
  codes_of_unit = map code_of unit.functions

  -- ---- external functions

  external : IsWellTyped unit → (f : Function) → FunctionIsNamed unit.names f → f.global ≡ true →
      IsSymbolOf all (external_number Program (objects_of name unit) f.name) f.name
  external well f named global =
      let n = named_there name unit f named global (find (λ (m : Ext). bytes_eq f.name m.name) unit.names) refl in
      record {
        symbol = external_symbol Program (objects_of name unit) n.0;
        there = at_external name unit well.names_differ f.name
            ∙ ap (λ o. option_map Some (option_map (external_symbol Program (objects_of name unit)) o)) n.1;
        name_is = sym (bytes_eq_is f.name n.0.name (found_passes (λ (m : Ext). bytes_eq f.name m.name) unit.names n.0 n.1));
      }

  -- ---- static functions

  abbrev functions : List Symbol
  functions = map (function_symbol Program (objects_of name unit) 0) (enumerate_from 0 codes_of_unit)

  abbrev variables : List Symbol
  variables = map (variable_symbol Program (objects_of name unit) 0) (enumerate_from 0 (variables_in_order unit.variables))

  abbrev symbol_of : ℕ → Function → Symbol
  symbol_of i f = function_symbol Program (objects_of name unit) 0 (i, code_of f)

  stands : (i : ℕ) (f : Function) → slice_get unit.functions i ≡ Some f → slice_get functions i ≡ Some (symbol_of i f)
  stands i f there =
      get_made (function_symbol Program (objects_of name unit) 0) codes_of_unit i
      ∙ ap (option_map (λ c. function_symbol Program (objects_of name unit) 0 (i, c)))
      (slice_get-map code_of unit.functions i ∙ ap (option_map code_of) there)

  -- the static functions before it
  counted : (i : ℕ) → length (filter is_static (take i functions)) ≡ static_functions (take i codes_of_unit)
  counted i =
      ap (λ l. length (filter is_static l)) (take_made (function_symbol Program (objects_of name unit) 0) 0 codes_of_unit i)
      ∙ static_count (function_symbol Program (objects_of name unit) 0) (λ (f : FunCode). f.global) (λ j f. refl) 0 (take i codes_of_unit)

  among_statics : (i : ℕ) (f : Function) → slice_get unit.functions i ≡ Some f → f.global ≡ false →
      slice_get (static_symbols Program (objects_of name unit)) (static_functions (take i codes_of_unit)) ≡ Some (symbol_of i f)
  among_statics i f there static =
      let k : ℕ = static_functions (take i codes_of_unit) in
      let own : Symbol = symbol_of i f in
      let passed : slice_get (filter is_static functions) k ≡ Some own =
      ap (slice_get (filter is_static functions)) (sym (counted i))
      ∙ among_passed is_static functions i own (stands i f there) (ap not static) in
      ap (λ l. slice_get (filter is_static l) k) (append-nil (functions ++ variables))
      ∙ ap (λ l. slice_get l k) (filter-append is_static functions variables)
      ∙ slice_front (filter is_static functions) (filter is_static variables) k own passed

  static_one : (i : ℕ) (f : Function) → slice_get unit.functions i ≡ Some f → f.global ≡ false →
      IsSymbolOf all (static_function_number Program (objects_of name unit) 0 i) f.name
  static_one i f there static =
      let k : ℕ = static_functions (take i codes_of_unit) in
      let statics : List Symbol = static_symbols Program (objects_of name unit) in
      let others : List Symbol = map (external_symbol Program (objects_of name unit)) (external_names (objects_of name unit)) in
      let number : 2 + 0 + k ≡ suc (suc k) = omega arith in
      record {
        symbol = symbol_of i f;
        there = ap (slice_get all) number ∙ slice_get-map Some (statics ++ others) k
            ∙ ap (option_map Some) (slice_front statics others k (symbol_of i f) (among_statics i f there static));
        name_is = refl;
      }

  by_linkage : IsWellTyped unit → (i : ℕ) (f : Function) → slice_get unit.functions i ≡ Some f → (g : Bool) → f.global ≡ g →
      IsSymbolOf all (symbol_number Program (objects_of name unit) 0 (if g then Global f.name else LocalFun i)) f.name
  by_linkage well i f there true e = external well f (at_place (FunctionIsNamed unit.names) unit.functions i f well.functions_named there) e
  by_linkage well i f there false e = static_one i f there e

  -- The symbol of a function has the function's name.
  pub symbol_of_function : IsWellTyped unit → (i : ℕ) (f : Function) → slice_get unit.functions i ≡ Some f →
      IsSymbolOf all (symbol_number Program (objects_of name unit) 0 (ref_of_function i (code_of f))) f.name
  symbol_of_function well i f there = by_linkage well i f there f.global refl

  -- ---- records

  -- A record is that of the function of a number.
  pub record IsRecordOf (i : ℕ) (r : FunRec) : Type 0 where
    pub f : Function
    pub there : slice_get unit.functions i ≡ Some f
    pub is : function_record Program (objects_of name unit) 0 (i, function_object unit.variables f) ≡ r

  abbrev own_record : ℕ → FunCode → FunRec
  own_record i c = function_record Program (objects_of name unit) 0 (i, c)

  record_by : (i : ℕ) (r : FunRec) (o : Option Function) → slice_get unit.functions i ≡ o →
      option_map (own_record i) (option_map code_of o) ≡ Some r → IsRecordOf i r
  record_by i r None there h = cc
  record_by i r (Some f) there h =
      let same : own_record i (code_of f) ≡ r = cc in record { f = f; there = there; is = same }

  -- Behind the entry's record, each record is a function's.
  pub record_at : (i : ℕ) (r : FunRec) → slice_get (function_records Program (objects_of name unit)) (suc i) ≡ Some r → IsRecordOf i r
  record_at i r h =
      let rows : List FunRec = map (function_record Program (objects_of name unit) 0) (enumerate_from 0 codes_of_unit) in
      let made : slice_get rows i ≡ option_map (own_record i) (option_map code_of (slice_get unit.functions i)) =
      get_made (function_record Program (objects_of name unit) 0) codes_of_unit i
      ∙ ap (option_map (own_record i)) (slice_get-map code_of unit.functions i) in
      record_by i r (slice_get unit.functions i) refl (sym made ∙ ap (λ l. slice_get l i) (sym (append-nil rows)) ∙ h)

  has_symbol : IsWellTyped unit → (i : ℕ) (r : FunRec) →
      slice_get (function_records Program (objects_of name unit)) i ≡ Some r → HasSymbol all r
  has_symbol well zero r h =
      let number : Some 1 ≡ Some r.sym = ap (option_map (λ (x : FunRec). x.sym)) h in
      let same : 1 ≡ r.sym = cc in
      (_, ap (slice_get all) (sym same))
  has_symbol well (suc i) r h =
      let at = record_at i r h in
      let s = symbol_of_function well i at.f at.there in
      (s.symbol, subst (λ (x : FunRec). slice_get all x.sym ≡ Some (Some s.symbol)) at.is s.there)

pub records_have_symbols : RecordsHaveSymbols
records_have_symbols name unit well =
    all_by_number (HasSymbol (all name unit)) (function_records Program (objects_of name unit)) (has_symbol name unit well)
