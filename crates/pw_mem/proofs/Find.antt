-- The first region that holds bytes is the one that is seen there, and the one that a write goes into.
use Rattle.std.proofs.Common.{◌≡◌, ℕ, ◌+◌, ◌<◌, Bool, true, false, List, [], ◌∷◌, length, map, get_or, set, refl, sym, ◌∙◌, ap, arith, Option, Some, None, MatchResult, cond, ltb, position}
use Rattle.std.specs.List.{position_from, position_or_len}
use Rattle.std.proofs.lemmas.Iterator.Adapters.{position_from-zero}
use Rattle.std.proofs.lemmas.Bool.Decides.{nat_tests}
use Rattle.std.proofs.lemmas.List.Quantifiers.{position-Some}
use Rattle.std.proofs.lemmas.List.{map-set, get_or-map, length-map}
use Rattle.std.specs.Option.{ok_or}
use Rattle.pw_mem.specs.declared.errors.Access.TheVariants.{Unmapped}
use Rattle.pw_mem.specs.declared.flat_region.FlatRegion.{FlatRegion}
use Rattle.pw_mem.specs.declared.flat.FlatMemory.{FlatMemory}
use Rattle.pw_mem.specs.Regions.{holds, region_at, with_bytes, written}
use Rattle.pw_mem.proofs.Regions.{IsFirst, seen_first, wrote_first}
use Rattle.pw_mem.specs.Flat.{region_of, mem_of}
use Rattle.pw_mem.specs.Steps.Found.{IsFound}

inside_from : (k n i : ℕ) (t : Bool) → ltb k n ≡ t → cond t (Some k) None ≡ Some i → i < n
inside_from k n i true lt found = let same : k ≡ i = cc in grind (arith, nat_tests)
inside_from k n i false lt found = cc

-- region number `i` of the vector is the first that holds the bytes
abbrev IsFirstOf : List FlatRegion → ℕ → ℕ → ℕ → FlatRegion → Type 0
IsFirstOf xs at n i d = (i < length xs) × (holds at n (region_of (get_or xs i d)) ≡ true) × ((k : ℕ) → k < i → holds at n (region_of (get_or xs k d)) ≡ false)

seen_as : (xs : List FlatRegion) (at n i : ℕ) (d : FlatRegion) → IsFirstOf xs at n i d → IsFirst (map region_of xs) at n i (region_of d)
seen_as xs at n i d first =
    let in_it : i < length xs = first.0 in
    (rw length-map first.0, ap (holds at n) (get_or-map region_of xs i d (region_of d) in_it) ∙ first.1, λ k lt. ap (holds at n) (get_or-map region_of xs k d (region_of d) (omega arith)) ∙ first.2 k lt)

seen_there : (xs : List FlatRegion) (at n i : ℕ) (region : FlatRegion) → IsFirstOf xs at n i region → region ≡ get_or xs i region
    → region_at (map region_of xs) at n ≡ Some (region_of region)
seen_there xs at n i region first is =
    seen_first (map region_of xs) at n i (region_of region) (seen_as xs at n i region first)
    ∙ ap Some (get_or-map region_of xs i region (region_of region) first.0 ∙ ap region_of (sym is))

wrote_there : (xs : List FlatRegion) (at n i : ℕ) (new : List ℕ) (region : FlatRegion) → IsFirstOf xs at n i region
    → region ≡ get_or xs i region → length new ≡ n
    → written (map region_of xs) at new ≡ set (map region_of xs) i (with_bytes (region_of region) at new)
wrote_there xs at n i new region first is fits =
    let here : IsFirst (map region_of xs) at (length new) i (region_of region) = rw fits (seen_as xs at n i region first) in
    wrote_first (map region_of xs) at i new (region_of region) here
    ∙ ap (λ r. set (map region_of xs) i (with_bytes r at new)) (get_or-map region_of xs i region (region_of region) first.0 ∙ ap region_of (sym is))

position_inside : {X : Type 0} (p : X → Bool) (xs : List X) (i : ℕ) → position p xs ≡ Some i → i < length xs
position_inside p xs i found = inside_from (position_or_len p xs) (length xs) i (ltb (position_or_len p xs) (length xs)) refl found

-- what the place of the first says
pub is_found : (memory : FlatMemory) (at n i : ℕ) → position (λ region. holds at n (region_of region)) memory.regions.items ≡ Some i
    → IsFound memory at n i
is_found memory at n i found =
    let xs = memory.regions.items in
    let first : (d : FlatRegion) → IsFirstOf xs at n i d = λ d. position-Some (λ region. holds at n (region_of region)) xs i d found in
    record {
      inside = position_inside (λ region. holds at n (region_of region)) xs i found;
      held = λ region is. ap (λ r. holds at n (region_of r)) is ∙ (first region).1;
      seen = λ region is. seen_there xs at n i region (first region) is;
      wrote = λ region new is fits. wrote_there xs at n i new region (first region) is fits;
    }

-- and where there is none
unmapped_step : (at n : ℕ) (x : FlatRegion) (xs : List FlatRegion) (k : ℕ)
    → (position_from (λ region. holds at n (region_of region)) (k + 1) xs ≡ None → region_at (map region_of xs) at n ≡ None) → (t : Bool)
    → holds at n (region_of x) ≡ t → cond t (Some k) (position_from (λ region. holds at n (region_of region)) (k + 1) xs) ≡ None
    → cond t (Some (region_of x)) (region_at (map region_of xs) at n) ≡ None
unmapped_step at n x xs k rest true is none = cc
unmapped_step at n x xs k rest false is none = rest none

unmapped_from : (at n : ℕ) (xs : List FlatRegion) (k : ℕ) → position_from (λ region. holds at n (region_of region)) k xs ≡ None
    → region_at (map region_of xs) at n ≡ None
unmapped_from at n [] k none = refl
unmapped_from at n (x ∷ xs) k none = unmapped_step at n x xs k (unmapped_from at n xs (k + 1)) (holds at n (region_of x)) refl none

pub is_unmapped : (xs : List FlatRegion) (at n : ℕ) → position (λ region. holds at n (region_of region)) xs ≡ None
    → region_at (map region_of xs) at n ≡ None
is_unmapped xs at n none =
    unmapped_from at n xs 0 (sym (position_from-zero (λ region. holds at n (region_of region)) xs) ∙ none)

-- the answer of a look-up
pub finds : (memory : FlatMemory) (at n : ℕ) (o : Option ℕ) → o ≡ position (λ region. holds at n (region_of region)) memory.regions.items
    → MatchResult (ok_or o Unmapped) (IsFound memory at n) (λ e. (e ≡ Unmapped) × (region_at (mem_of memory).regions at n ≡ None))
finds memory at n None is = (refl, is_unmapped memory.regions.items at n (sym is))
finds memory at n (Some i) is = is_found memory at n i (sym is)

-- a write of one region in its vector is the write into the memory
pub wrote_items : (memory : FlatMemory) (at n i : ℕ) (old new : FlatRegion) (bytes : List ℕ) → IsFound memory at n i
    → old ≡ get_or memory.regions.items i old → length bytes ≡ n → region_of new ≡ with_bytes (region_of old) at bytes
    → map region_of (set memory.regions.items i new) ≡ written (map region_of memory.regions.items) at bytes
wrote_items memory at n i old new bytes found is fits change =
    map-set region_of memory.regions.items i new ∙ ap (λ r. set (map region_of memory.regions.items) i r) change
    ∙ sym (found.wrote old bytes is fits)
