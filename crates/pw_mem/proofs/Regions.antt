-- Which region is seen at an address after a write.
use Rattle.std.proofs.Common.{◌≡◌, ℕ, zero, suc, ◌+◌, ◌<◌, Bool, true, false, ◌&&◌, cond, leb, List, [], ◌∷◌, length, get_or, set, refl, ap, arith, Option, Some, option_map}
use Rattle.pw_mem.specs.Regions.{MappedRegion, holds, region_at, with_bytes, written}
use Rattle.pw_mem.proofs.Bytes.{length-with_bytes}

-- a region holds the same places after a write
pub holds-with_bytes : (r : MappedRegion) (a b n : ℕ) (new : List ℕ) → holds a (length new) r ≡ true
    → holds b n (with_bytes r a new) ≡ holds b n r
holds-with_bytes r a b n new h = ap (λ l. leb r.start b && leb (b + n) (r.start + l)) (length-with_bytes r a new h)

-- what is seen of a region, as `g` says it, at a place where a write changes nothing that `g` says
module _ {X : Type 0} (g : MappedRegion → X) (a b n : ℕ) (new : List ℕ) where
  seen_in_first : (r : MappedRegion) (rs : List MappedRegion) (t : Bool) → holds b n r ≡ t
      → (holds b n r ≡ true → g (with_bytes r a new) ≡ g r)
      → option_map g (cond t (Some (with_bytes r a new)) (region_at rs b n)) ≡ option_map g (cond t (Some r) (region_at rs b n))
  seen_in_first r rs true e same = ap Some (same e)
  seen_in_first r rs false e same = refl

  seen_in_rest : (r : MappedRegion) (after before : Option MappedRegion) (t : Bool) → option_map g after ≡ option_map g before
      → option_map g (cond t (Some r) after) ≡ option_map g (cond t (Some r) before)
  seen_in_rest r after before true e = refl
  seen_in_rest r after before false e = e

  view_step : (r : MappedRegion) (rs after : List MappedRegion)
      → ((q : MappedRegion) → region_at (r ∷ rs) a (length new) ≡ Some q → holds b n q ≡ true → g (with_bytes q a new) ≡ g q)
      → (((q : MappedRegion) → region_at rs a (length new) ≡ Some q → holds b n q ≡ true → g (with_bytes q a new) ≡ g q) → option_map g (region_at after b n) ≡ option_map g (region_at rs b n)) → (t : Bool) → holds a (length new) r ≡ t → option_map g (region_at (cond t (with_bytes r a new ∷ rs) (r ∷ after)) b n) ≡ option_map g (cond (holds b n r) (Some r) (region_at rs b n))
  view_step r rs after same ih true e = rw (holds-with_bytes r a b n new e) (seen_in_first r rs (holds b n r) refl (same r (rw e refl)))
  view_step r rs after same ih false e = seen_in_rest r (region_at after b n) (region_at rs b n) (holds b n r) (ih (λ q found. same q (rw e found)))

  -- a write changes nothing that is seen at another place
  pub view-written : (rs : List MappedRegion)
      → ((r : MappedRegion) → region_at rs a (length new) ≡ Some r → holds b n r ≡ true → g (with_bytes r a new) ≡ g r)
      → option_map g (region_at (written rs a new) b n) ≡ option_map g (region_at rs b n)
  view-written [] same = refl
  view-written (r ∷ rs) same = view_step r rs (written rs a new) same (view-written rs) (holds a (length new) r) refl

-- the region that bytes were written into is seen with them
written_step : (r : MappedRegion) (rs after : List MappedRegion) (a : ℕ) (new : List ℕ)
    → region_at after a (length new) ≡ option_map (λ r'. with_bytes r' a new) (region_at rs a (length new)) → (t : Bool)
    → holds a (length new) r ≡ t
    → region_at (cond t (with_bytes r a new ∷ rs) (r ∷ after)) a (length new) ≡ option_map (λ r'. with_bytes r' a new) (cond t (Some r) (region_at rs a (length new)))
written_step r rs after a new ih true e = rw (holds-with_bytes r a a (length new) new e, e) refl
written_step r rs after a new ih false e = rw e ih

pub region_at-written : (rs : List MappedRegion) (a : ℕ) (new : List ℕ)
    → region_at (written rs a new) a (length new) ≡ option_map (λ r. with_bytes r a new) (region_at rs a (length new))
region_at-written [] a new = refl
region_at-written (r ∷ rs) a new = written_step r rs (written rs a new) a new (region_at-written rs a new) (holds a (length new) r) refl

-- a region that is found holds the places
found_holds : (r : MappedRegion) (rs : List MappedRegion) (a n : ℕ) (q : MappedRegion) → (region_at rs a n ≡ Some q → holds a n q ≡ true)
    → (t : Bool) → holds a n r ≡ t → cond t (Some r) (region_at rs a n) ≡ Some q → holds a n q ≡ true
found_holds r rs a n q ih true e h = let same : r ≡ q = cc in rw (← same) e
found_holds r rs a n q ih false e h = ih h

pub region_at-holds : (rs : List MappedRegion) (a n : ℕ) (q : MappedRegion) → region_at rs a n ≡ Some q → holds a n q ≡ true
region_at-holds [] a n q h = cc
region_at-holds (r ∷ rs) a n q h = found_holds r rs a n q (region_at-holds rs a n q) (holds a n r) refl h

-- region number `i` is the first that holds the bytes
abbrev pub IsFirst : List MappedRegion → ℕ → ℕ → ℕ → MappedRegion → Type 0
IsFirst rs at n i d = (i < length rs) × (holds at n (get_or rs i d) ≡ true) × ((k : ℕ) → k < i → holds at n (get_or rs k d) ≡ false)

-- the first is seen there
pub seen_first : (rs : List MappedRegion) (at n i : ℕ) (d : MappedRegion) → IsFirst rs at n i d → region_at rs at n ≡ Some (get_or rs i d)
seen_first [] at n i d first = absurd (omega arith)
seen_first (r ∷ rs) at n zero d first = rw (first.1) refl
seen_first (r ∷ rs) at n (suc i) d first =
    rw (first.2 0 (omega arith)) (seen_first rs at n i d (omega arith, first.1, λ k lt. first.2 (suc k) (omega arith)))

-- and a write goes into it
pub wrote_first : (rs : List MappedRegion) (at i : ℕ) (new : List ℕ) (d : MappedRegion) → IsFirst rs at (length new) i d
    → written rs at new ≡ set rs i (with_bytes (get_or rs i d) at new)
wrote_first [] at i new d first = absurd (omega arith)
wrote_first (r ∷ rs) at zero new d first = rw (first.1) refl
wrote_first (r ∷ rs) at (suc i) new d first =
    rw (first.2 0 (omega arith)) (ap (λ rest. r ∷ rest) (wrote_first rs at i new d (omega arith, first.1, λ k lt. first.2 (suc k) (omega arith))))
