-- The external names of a module differ.
use Rattle.std.proofs.Common.{◌≡◌, ℕ, Bool, true, false, not, cond, List, [], ◌∷◌, map, refl, ◌∙◌, bytes_eq}
use Rattle.std.proofs.lemmas.Cmp.{nat_list_eq_equiv}
use Rattle.std.specs.List.{AllByRecursion, IsDistinct, filter}
use Rattle.pw_tree.specs.declared.tunit.Ext.{Ext}
use Rattle.pw_code.specs.declared.object.Object.{Object}
use Rattle.pw_place.specs.Names.{first_of_each, same_name, declared_names, external_names}

-- names, none of which is this one
abbrev Lack : List ℕ → List Ext → Type 0
Lack name names = AllByRecursion (λ other. bytes_eq name other ≡ false) (map (λ (n : Ext). n.name) names)

turned : (a b : List ℕ) → bytes_eq a b ≡ false → bytes_eq b a ≡ false
turned a b h = nat_list_eq_equiv.symm b a ∙ h

lack_by : (name : List ℕ) (n : Ext) (names : List Ext) (b : Bool) → bytes_eq n.name name ≡ b → Lack name names →
    Lack name (cond (not b) (n ∷ names) names)
lack_by name n names true e rest = rest
lack_by name n names false e rest = (turned n.name name e, rest)

-- Those that are others are left.
lack_left : (name : Ext) (names : List Ext) → Lack name.name (filter (λ n. not (same_name n name)) names)
lack_left name [] = tt
lack_left name (n ∷ names) =
    lack_by name.name n (filter (λ m. not (same_name m name)) names) (bytes_eq n.name name.name) refl (lack_left name names)

module _ (p : Ext → Bool) where
  lack_kept_by : (name : List ℕ) (n : Ext) (names : List Ext) (b : Bool) → bytes_eq name n.name ≡ false → Lack name names →
      Lack name (cond b (n ∷ names) names)
  lack_kept_by name n names true e rest = (e, rest)
  lack_kept_by name n names false e rest = rest

  lack_kept : (name : List ℕ) (names : List Ext) → Lack name names → Lack name (filter p names)
  lack_kept name [] h = tt
  lack_kept name (n ∷ names) h = lack_kept_by name n (filter p names) (p n) h.0 (lack_kept name names h.1)

  differ_by : (n : Ext) (names : List Ext) (b : Bool) → Lack n.name names → IsDistinct bytes_eq (map (λ (m : Ext). m.name) names) →
      IsDistinct bytes_eq (map (λ (m : Ext). m.name) (cond b (n ∷ names) names))
  unfolding IsDistinct
  differ_by n names true h rest = (h, rest)
  differ_by n names false h rest = rest

  -- Names that differ still differ where some are left out.
  differ_kept : (names : List Ext) → IsDistinct bytes_eq (map (λ (m : Ext). m.name) names) →
      IsDistinct bytes_eq (map (λ (m : Ext). m.name) (filter p names))
  unfolding IsDistinct
  differ_kept [] h = tt
  differ_kept (n ∷ names) h = differ_by n (filter p names) (p n) (lack_kept n.name names h.0) (differ_kept names h.1)

firsts_differ : (names : List Ext) → IsDistinct bytes_eq (map (λ (m : Ext). m.name) (first_of_each same_name names))
unfolding first_of_each IsDistinct
firsts_differ [] = tt
firsts_differ (n ∷ names) =
    (lack_left n (first_of_each same_name names), differ_kept (λ m. not (same_name m n)) (first_of_each same_name names) (firsts_differ names))

pub names_differ : (objects : List Object) → IsDistinct bytes_eq (map (λ (n : Ext). n.name) (external_names objects))
names_differ objects = firsts_differ (declared_names objects)
