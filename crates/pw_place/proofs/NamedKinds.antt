-- What names stand for, as definitions are met one after another.
use Rattle.std.proofs.Common.{◌≡◌, ℕ, zero, suc, ◌+◌, ◌<◌, Bool, true, false, not, ◌&&◌, cond, List, [], ◌∷◌, ◌++◌, map, replicate, length, Option, Some, None, refl, sym, ap, ◌∙◌, arith, bytes_eq}
use Rattle.std.specs.Prelude.{find, slice_get, slice_set, option_map}
use Rattle.std.specs.List.{AllByRecursion, IsDistinct, position_or_len}
use Rattle.std.specs.Option.{option_or, option_map_or, is_none}
use Rattle.std.specs.Cmp.Lexicographic.{same_text}
use Rattle.std.proofs.lemmas.List.Folds.{find-append}
use Rattle.std.proofs.lemmas.Option.{slice_get_within}
use Rattle.pw_tree.specs.declared.tunit.Ext.{Ext}
use Rattle.pw_module.specs.declared.symbol.Symbol.{Symbol}
use Rattle.pw_module.specs.declared.symbol.SymKind.{SymKind}
use Rattle.pw_place.specs.Steps.NameKinds.{defines, kind_among, kinds_among, met_at, is_unknown_at, symbol_met}

-- ---- a kind that is set

met_new : (kinds : List (Option SymKind)) (number : ℕ) (kind : SymKind) → slice_get kinds number ≡ Some None →
    slice_set kinds number (Some kind) ≡ met_at kinds number kind
met_new [] number kind h = cc
met_new (known ∷ kinds) zero kind h =
    let same : known ≡ None = cc in
    ap (λ k. option_or k (Some kind) ∷ kinds) (sym same)
met_new (known ∷ kinds) (suc number) kind h = ap (λ ks. known ∷ ks) (met_new kinds number kind h)

met_known : (kinds : List (Option SymKind)) (number : ℕ) (kind known : SymKind) → slice_get kinds number ≡ Some (Some known) →
    kinds ≡ met_at kinds number kind
met_known [] number kind known h = cc
met_known (k ∷ kinds) zero kind known h =
    let same : k ≡ Some known = cc in
    ap (λ o. o ∷ kinds) same ∙ ap (λ o. option_or o (Some kind) ∷ kinds) (sym same)
met_known (k ∷ kinds) (suc number) kind known h = ap (λ ks. k ∷ ks) (met_known kinds number kind known h)

met_past : (kinds : List (Option SymKind)) (number : ℕ) (kind : SymKind) → slice_get kinds number ≡ None →
    kinds ≡ met_at kinds number kind
met_past [] number kind h = refl
met_past (k ∷ kinds) zero kind h = cc
met_past (k ∷ kinds) (suc number) kind h = ap (λ ks. k ∷ ks) (met_past kinds number kind h)

module _ (kinds : List (Option SymKind)) (number : ℕ) (kind : SymKind) where
  within_by : (o : Option (Option SymKind)) → slice_get kinds number ≡ o → option_map_or is_none o false ≡ true → number < length kinds
  within_by (Some None) e h = slice_get_within kinds number None e
  within_by (Some (Some k)) e h = cc
  within_by None e h = cc

  pub unknown_within : is_unknown_at kinds number ≡ true → number < length kinds
  unknown_within h = within_by (slice_get kinds number) refl h

  set_by : (o : Option (Option SymKind)) → slice_get kinds number ≡ o → option_map_or is_none o false ≡ true →
      slice_set kinds number (Some kind) ≡ met_at kinds number kind
  set_by (Some None) e h = met_new kinds number kind e
  set_by (Some (Some k)) e h = cc
  set_by None e h = cc

  -- What is not known is set.
  pub unknown_is_set : is_unknown_at kinds number ≡ true → slice_set kinds number (Some kind) ≡ met_at kinds number kind
  unknown_is_set h = set_by (slice_get kinds number) refl h

  kept_by : (o : Option (Option SymKind)) → slice_get kinds number ≡ o → option_map_or is_none o false ≡ false →
      kinds ≡ met_at kinds number kind
  kept_by (Some None) e h = cc
  kept_by (Some (Some k)) e h = met_known kinds number kind k e
  kept_by None e h = met_past kinds number kind e

  -- And what is known is kept.
  pub known_is_kept : is_unknown_at kinds number ≡ false → kinds ≡ met_at kinds number kind
  known_is_kept h = kept_by (slice_get kinds number) refl h

-- ---- one definition more

module _ (ss : List Symbol) (s : Symbol) where
  -- of a name
  more_by : (name : List ℕ) (b : Bool) → defines name s ≡ b →
      kind_among (ss ++ s ∷ []) name ≡ option_or (kind_among ss name) (cond b (Some s.kind) None)
  more_by name b e =
      ap (option_map (λ (t : Symbol). t.kind)) (find-append (defines name) ss (s ∷ []))
      ∙ ap (λ c. option_map (λ (t : Symbol). t.kind) (option_or (find (defines name) ss) (cond c (Some s) None))) e
      ∙ by (find (defines name) ss) b
    where
      by : (o : Option Symbol) (c : Bool) →
          option_map (λ (t : Symbol). t.kind) (option_or o (cond c (Some s) None)) ≡ option_or (option_map (λ (t : Symbol). t.kind) o) (cond c (Some s.kind) None)
      by None true = refl
      by None false = refl
      by (Some t) c = refl

  none_more : (o : Option SymKind) → option_or o None ≡ o
  none_more None = refl
  none_more (Some k) = refl

  unchanged : (name : List ℕ) → defines name s ≡ false → kind_among (ss ++ s ∷ []) name ≡ kind_among ss name
  unchanged name e = more_by name false e ∙ none_more (kind_among ss name)

  -- of names that are all others
  all_unchanged : (names : List Ext) → AllByRecursion (λ (n : Ext). defines n.name s ≡ false) names →
      kinds_among ss names ≡ kinds_among (ss ++ s ∷ []) names
  all_unchanged [] h = refl
  all_unchanged (n ∷ names) h = (λ i. sym (unchanged n.name h.0) i ∷ all_unchanged names h.1 i)

  -- ---- an external one

  module _ (external : s.global ≡ true) where
    defines_is : (name : List ℕ) → defines name s ≡ bytes_eq s.name name
    defines_is name = ap (λ g. g && bytes_eq s.name name) external

    others : (n : Ext) → bytes_eq s.name n.name ≡ true → (names : List Ext) →
        AllByRecursion (λ other. bytes_eq n.name other ≡ false) (map (λ (m : Ext). m.name) names) →
        AllByRecursion (λ (m : Ext). defines m.name s ≡ false) names
    others n same [] h = tt
    others n same (m ∷ names) h =
        (defines_is m.name ∙ ap (λ t. bytes_eq t m.name) (same_text s.name n.name (sym same)) ∙ h.0, others n same names h.1)

    place : (n : Ext) (names : List Ext) (b : Bool) → bytes_eq s.name n.name ≡ b →
        position_or_len (λ (m : Ext). bytes_eq s.name m.name) (n ∷ names)
        ≡ cond b 0 (suc (position_or_len (λ (m : Ext). bytes_eq s.name m.name) names))
    place n names true e = ap (λ c. cond (not c) (1 + position_or_len (λ (m : Ext). bytes_eq s.name m.name) names) 0) e
    place n names false e =
        let one : 1 + position_or_len (λ (m : Ext). bytes_eq s.name m.name) names ≡ suc (position_or_len (λ (m : Ext). bytes_eq s.name m.name) names) = omega arith in
        ap (λ c. cond (not c) (1 + position_or_len (λ (m : Ext). bytes_eq s.name m.name) names) 0) e ∙ one

    met_by : (n : Ext) (names : List Ext) (b : Bool) → bytes_eq s.name n.name ≡ b →
        AllByRecursion (λ other. bytes_eq n.name other ≡ false) (map (λ (m : Ext). m.name) names) →
        met_at (kinds_among ss names) (position_or_len (λ (m : Ext). bytes_eq s.name m.name) names) s.kind ≡ kinds_among (ss ++ s ∷ []) names →
        met_at (kinds_among ss (n ∷ names)) (cond b 0 (suc (position_or_len (λ (m : Ext). bytes_eq s.name m.name) names))) s.kind
        ≡ kinds_among (ss ++ s ∷ []) (n ∷ names)
    met_by n names true e differ rest =
        (λ i. sym (more_by n.name true (defines_is n.name ∙ e)) i ∷ all_unchanged names (others n e names differ) i)
    met_by n names false e differ rest = (λ i. sym (unchanged n.name (defines_is n.name ∙ e)) i ∷ rest i)

    met_here : (names : List Ext) → IsDistinct bytes_eq (map (λ (n : Ext). n.name) names) →
        met_at (kinds_among ss names) (position_or_len (λ (m : Ext). bytes_eq s.name m.name) names) s.kind ≡ kinds_among (ss ++ s ∷ []) names
    unfolding IsDistinct
    met_here [] differ = refl
    met_here (n ∷ names) differ =
        ap (λ k. met_at (kinds_among ss (n ∷ names)) k s.kind) (place n names (bytes_eq s.name n.name) refl)
        ∙ met_by n names (bytes_eq s.name n.name) refl differ.0 (met_here names differ.1)

  -- ---- any

  none_defined : s.global ≡ false → (names : List Ext) → AllByRecursion (λ (m : Ext). defines m.name s ≡ false) names
  none_defined static [] = tt
  none_defined static (m ∷ names) = (ap (λ g. g && bytes_eq s.name m.name) static, none_defined static names)

  met_any : (names : List Ext) (b : Bool) → s.global ≡ b → IsDistinct bytes_eq (map (λ (n : Ext). n.name) names) →
      cond b (met_at (kinds_among ss names) (position_or_len (λ (m : Ext). bytes_eq s.name m.name) names) s.kind) (kinds_among ss names)
      ≡ kinds_among (ss ++ s ∷ []) names
  met_any names true e differ = met_here e names differ
  met_any names false e differ = all_unchanged names (none_defined e names)

  -- A definition is met, and the names stand for what they do with it.
  pub symbol_is_met : (names : List Ext) → IsDistinct bytes_eq (map (λ (n : Ext). n.name) names) →
      symbol_met names (kinds_among ss names) s ≡ kinds_among (ss ++ s ∷ []) names
  symbol_is_met names differ = met_any names s.global refl differ

-- Of no definition is anything known.
pub nothing_known : (names : List Ext) → kinds_among [] names ≡ replicate (length names) None
nothing_known [] = refl
nothing_known (n ∷ names) = ap (λ ks. None ∷ ks) (nothing_known names)
