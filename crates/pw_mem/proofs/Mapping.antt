-- Regions that can be mapped, one more at a time.
use Rattle.std.proofs.Common.{◌≡◌, ℕ, ◌+◌, ◌<◌, ◌≤◌, Bool, true, false, ◌||◌, List, [], ◌∷◌, ◌++◌, length, take, get_or, refl, arith}
use Rattle.std.specs.List.{list_any, All}
use Rattle.std.proofs.lemmas.List.{take_all, take_more}
use Rattle.std.proofs.lemmas.List.Elements.{All-push, All-nil, All-cons}
use Rattle.std.proofs.lemmas.List.Quantifiers.{all_pairs_push}
use Rattle.pw_mem.specs.declared.region.Region.{Region}
use Rattle.pw_mem.specs.Map.{is_aligned, meets, CanMap}

-- none of no regions is at fault
pub can_map_none : CanMap []
can_map_none = record { aligned = λ k d h. absurd (omega arith); apart = λ i j d h g. absurd (omega arith) }

none_passes_from : (p : Region → Bool) (x : Region) (xs : List Region) → (list_any p xs ≡ false → All (λ y. p y ≡ false) xs) → (t : Bool)
    → p x ≡ t → t || list_any p xs ≡ false → All (λ y. p y ≡ false) (x ∷ xs)
none_passes_from p x xs rest true is h = cc
none_passes_from p x xs rest false is h = All-cons (λ y. p y ≡ false) x xs is (rest h)

none_passes : (p : Region → Bool) (xs : List Region) → list_any p xs ≡ false → All (λ x. p x ≡ false) xs
none_passes p [] h = All-nil (λ x. p x ≡ false)
none_passes p (x ∷ xs) h = none_passes_from p x xs (none_passes p xs) (p x) refl h

-- one more, which is aligned and meets none of them
pub can_map_push : (rs : List Region) (r : Region) → CanMap rs → is_aligned r ≡ true → list_any (meets r) rs ≡ false → CanMap (rs ++ r ∷ [])
can_map_push rs r h even alone = record {
  aligned = All-push (λ q. is_aligned q ≡ true) rs r h.aligned even;
  apart = all_pairs_push (λ earlier later. meets later earlier ≡ false) rs r h.apart (λ k d in_it. none_passes (meets r) rs alone k d in_it);
}

pub can_map_more : (rs : List Region) (i : ℕ) (d : Region) → i < length rs → CanMap (take i rs) → is_aligned (get_or rs i d) ≡ true
    → list_any (meets (get_or rs i d)) (take i rs) ≡ false → CanMap (take (i + 1) rs)
can_map_more rs i d in_it h even alone = rw (take_more rs i d in_it) (can_map_push (take i rs) (get_or rs i d) h even alone)

-- all of them
pub can_map_all : (rs : List Region) (i : ℕ) → length rs ≤ i → CanMap (take i rs) → CanMap rs
can_map_all rs i all h = let whole : take i rs ≡ rs = take_all i rs all in rw whole at h
