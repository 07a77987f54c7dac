-- A reference that joins a set of keys joins the list of what they name.
use Rattle.std.proofs.Common.{◌≡◌, Bool, true, false, ◌||◌, List, [], ◌∷◌, ◌++◌, map, refl, ap, ◌∙◌, if◌then◌else◌}
use Rattle.std.specs.List.{list_any}
use Rattle.std.proofs.lemmas.List.{map-append}
use Rattle.indexmap.specs.IndexSet.{insert_key}
use Rattle.pw_tree.specs.declared.ty.Ref.{Ref}
use Rattle.pw_code.specs.Objects.{same_ref}
use Rattle.pw_gen.specs.Steps.Naming.{joined}
use Rattle.pw_gen.specs.Steps.ReferenceKeys.{same_both_ways}

module _ {K : Type 0} (to : K → Ref) (r : Ref) where
  -- a reference is that of a key where it is one of those that the keys name
  among : (ks : List K) → list_any (λ k. same_ref r (to k)) ks ≡ list_any (λ other. same_ref other r) (map to ks)
  among [] = refl
  among (k ∷ ks) = λ i. same_both_ways r (to k) i || among ks i

  choice : (ks : List K) (k : K) (b : Bool) → map to (if b then ks else ks ++ k ∷ []) ≡ (if b then map to ks else map to ks ++ to k ∷ [])
  choice ks k true = refl
  choice ks k false = map-append to ks (k ∷ [])

-- A key that is inserted joins what the keys name.
pub joins : {K : Type 0} (to : K → Ref) (r : Ref) (ks : List K) (k : K) (new : List K) → to k ≡ r
    → new ≡ insert_key (λ x y. same_ref (to x) (to y)) ks k → map to new ≡ joined (map to ks) r
joins to r ks k new own e =
    ap (map to) e
    ∙ choice to r ks k (list_any (λ x. same_ref (to k) (to x)) ks)
    ∙ ap (λ b. if b then map to ks else map to ks ++ to k ∷ []) (among to (to k) ks)
    ∙ ap (joined (map to ks)) own
