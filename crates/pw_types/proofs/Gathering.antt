-- The faults of phrases in one list, those of the parts before the phrase's own.
use Rattle.std.proofs.Common.{◌≡◌, ℕ, suc, List, [], ◌∷◌, ◌++◌, map, refl, sym, ap, ◌∙◌, append_assoc}
use Rattle.std.proofs.lemmas.List.{map-append}
use Rattle.pw_types.specs.declared.fault.Fault.{Fault}
use Rattle.pw_types.specs.Nests.{Nest, Nests, nest, none, more, Nested, walk, walk_all}
use Rattle.pw_types.proofs.Standing.{at_depth}

unfoldable mutual
  pub flat : Nest → List Fault
  flat (nest ns own) = gather ns own

  -- those of several phrases, before others
  pub gather : Nests → List Fault → List Fault
  gather none own = own
  gather (more n ns) own = flat n ++ gather ns own

pub both : {es fs gs hs : List Fault} → es ≡ fs → gs ≡ hs → es ++ gs ≡ fs ++ hs
both {fs = fs} {gs = gs} e f = ap (λ es. es ++ gs) e ∙ ap (λ gs. fs ++ gs) f

pub gather_append : (ns : Nests) (fs gs : List Fault) → gather ns (fs ++ gs) ≡ gather ns fs ++ gs
unfolding flat
gather_append none fs gs = refl
gather_append (more n ns) fs gs = both refl (gather_append ns fs gs) ∙ sym (append_assoc (flat n) (gather ns fs) gs)

own_faults : (depth : ℕ) (own : List Fault) → map (λ m. m.fault) (map (at_depth depth) own) ≡ own
own_faults depth [] = refl
own_faults depth (f ∷ fs) = ap (λ gs. f ∷ gs) (own_faults depth fs)

-- a walk meets them in this order
mutual
  unfolding walk flat

  pub walk_is_flat : (depth : ℕ) (n : Nest) → map (λ m. m.fault) (walk depth n) ≡ flat n
  walk_is_flat depth (nest ns own) =
      map-append (λ (m : Nested). m.fault) (walk_all (suc depth) ns) (map (at_depth depth) own)
      ∙ both refl (own_faults depth own) ∙ walk_gathers (suc depth) ns own

  walk_gathers : (depth : ℕ) (ns : Nests) (own : List Fault) → map (λ m. m.fault) (walk_all depth ns) ++ own ≡ gather ns own
  walk_gathers depth none own = refl
  walk_gathers depth (more n ns) own =
      both (map-append (λ (m : Nested). m.fault) (walk depth n) (walk_all depth ns)) refl
      ∙ append_assoc (map (λ m. m.fault) (walk depth n)) (map (λ m. m.fault) (walk_all depth ns)) own
      ∙ both (walk_is_flat depth n) (walk_gathers depth ns own)
