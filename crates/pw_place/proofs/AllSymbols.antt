-- The symbols that are appended one part after another are all symbols of a module.
use Rattle.std.proofs.Common.{◌≡◌, ℕ, ◌+◌, List, [], ◌∷◌, ◌++◌, map, Option, Some, None, refl, sym, ap, ◌∙◌}
use Rattle.std.specs.Prelude.{not, filter, find, slice_get, option_map}
use Rattle.std.specs.List.{enumerate_from}
use Rattle.std.specs.Option.{option_map_or}
use Rattle.std.proofs.lemmas.List.{map-append}
use Rattle.std.proofs.lemmas.Option.{slice_get-map}
use Rattle.pw_base.specs.declared.kinds.Kind.{Kind}
use Rattle.pw_base.specs.Tests.{is_name}
use Rattle.std.specs.Prelude.{true, codes}
use Rattle.pw_tree.specs.declared.tunit.Ext.{Ext}
use Rattle.pw_code.specs.declared.object.Object.{Object}
use Rattle.pw_module.specs.declared.symbol.Symbol.{Symbol}
use Rattle.pw_module.specs.declared.symbol.SymKind.{SymKind}
use Rattle.pw_module.specs.declared.symbol.SymKind.TheVariants.{Undefined}
use Rattle.pw_place.specs.Names.{external_names}
use Rattle.pw_place.specs.Symbols.{defined_symbols, static_symbols, entry_symbols, external_symbol, kind_of_name, symbols}
use Rattle.pw_place.specs.Steps.NameKinds.{kind_among, kinds_among, defines}
use Rattle.pw_place.specs.Steps.ExternalSymbols.{known_kind, kind_at, symbol_of_name}
use Rattle.pw_place.proofs.Enumerated.{same_each}

-- The entry has a name.
pub entry_is_named : is_name (codes "_start") ≡ true
unfolding is_name
entry_is_named = refl

-- What is made of items without their numbers.
unnumbered : {X Y : Type 0} (f : X → Y) (n : ℕ) (xs : List X) → map (λ p. f p.1) (enumerate_from n xs) ≡ map f xs
unnumbered f n [] = refl
unnumbered f n (x ∷ xs) = ap (λ ys. f x ∷ ys) (unnumbered f (n + 1) xs)

module _ (kind : Kind) (objects : List Object) where
  stands_by : (o : Option Symbol) → known_kind (Some (option_map (λ (s : Symbol). s.kind) o)) ≡ option_map_or (λ (s : Symbol). s.kind) o Undefined
  stands_by None = refl
  stands_by (Some s) = refl

  -- of the name of a number
  stands : (names : List Ext) (i : ℕ) (n : Ext) → slice_get names i ≡ Some n →
      kind_at (kinds_among (defined_symbols kind objects) names) i ≡ kind_of_name kind objects n.name
  stands names i n h =
      let defined : List Symbol = defined_symbols kind objects in
      ap known_kind (slice_get-map (λ (m : Ext). kind_among defined m.name) names i ∙ ap (option_map (λ (m : Ext). kind_among defined m.name)) h)
      ∙ stands_by (find (defines n.name) defined)

  external : (names : List Ext) →
      map (λ n. Some (symbol_of_name (kinds_among (defined_symbols kind objects) names) n)) (enumerate_from 0 names)
      ≡ map Some (map (external_symbol kind objects) names)
  external names =
      same_each (λ n. Some (symbol_of_name (kinds_among (defined_symbols kind objects) names) n)) (λ n. Some (external_symbol kind objects n.1)) names
      (λ i n h. ap (λ k. Some (record { name = n.name; global = true; kind = k; text = n.text })) (stands names i n h))
      ∙ unnumbered (λ n. Some (external_symbol kind objects n)) 0 names
      ∙ two_maps names
    where
      two_maps : (ns : List Ext) → map (λ n. Some (external_symbol kind objects n)) ns ≡ map Some (map (external_symbol kind objects) ns)
      two_maps [] = refl
      two_maps (n ∷ ns) = ap (λ ss. Some (external_symbol kind objects n) ∷ ss) (two_maps ns)

  pub all_symbols : (defined : List Symbol) (names : List Ext) (kinds : List (Option SymKind)) (start a b d : List (Option Symbol)) →
      defined ≡ defined_symbols kind objects → names ≡ external_names objects → kinds ≡ kinds_among defined names →
      start ≡ None ∷ [] → a ≡ start ++ map Some (entry_symbols kind) → b ≡ a ++ map Some (filter (λ s. not s.global) defined) →
      d ≡ b ++ map (λ n. Some (symbol_of_name kinds n)) (enumerate_from 0 names) → d ≡ symbols kind objects
  all_symbols defined names kinds start a b d of_definitions of_names of_kinds e1 e2 e3 e4 =
      let entry : List Symbol = entry_symbols kind in
      let static : List Symbol = static_symbols kind objects in
      let others : List Symbol = map (external_symbol kind objects) (external_names objects) in
      let last : map (λ n. Some (symbol_of_name kinds n)) (enumerate_from 0 names) ≡ map Some others =
      (λ i. map (λ n. Some (symbol_of_name (of_kinds i) n)) (enumerate_from 0 names))
      ∙ (λ i. map (λ n. Some (symbol_of_name (kinds_among (of_definitions i) names) n)) (enumerate_from 0 names))
      ∙ external names ∙ ap (λ ns. map Some (map (external_symbol kind objects) ns)) of_names in
      e4
      ∙ (λ i. e3 i ++ last i)
      ∙ (λ i. (e2 i ++ map Some (filter (λ s. not s.global) (of_definitions i))) ++ map Some others)
      ∙ ap (λ l. ((l ++ map Some entry) ++ map Some static) ++ map Some others) e1
      ∙ ap (λ l. None ∷ l)
      (sym (map-append Some (entry ++ static) others ∙ ap (λ l. l ++ map Some others) (map-append Some entry static)))
