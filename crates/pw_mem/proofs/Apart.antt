-- Regions with no address in common: then an address says its region.
use Rattle.std.proofs.Common.{◌≡◌, ℕ, ◌<◌, true, false, List, length, get_or, set, sym, ◌∙◌, ap, arith, Some}
use Rattle.std.proofs.lemmas.Bool.Decides.{nat_tests}
use Rattle.std.proofs.lemmas.List.{get_or-map, length-map}
use Rattle.pw_mem.specs.declared.region.Region.{Region}
use Rattle.pw_mem.specs.Regions.{MappedRegion, holds, region_at, with_bytes, written}
use Rattle.pw_mem.specs.Map.{CanMap, meets, fresh, mapped}
use Rattle.pw_mem.specs.Apart.{are_apart, AreApart}
use Rattle.pw_mem.specs.WriteLaws.{Shape, shape_of}
use Rattle.pw_mem.proofs.Regions.{IsFirst, seen_first, wrote_first}
use Rattle.pw_mem.proofs.Writes.{shapes_written}
use Rattle.pw_mem.proofs.Zeros.{length_of_zeros}

-- of two regions that are apart, one alone holds some bytes
apart_holds : (a b : MappedRegion) (at n : ℕ) → are_apart a b ≡ true → 0 < n → holds at n b ≡ true → holds at n a ≡ false
apart_holds a b at n apart some held = grind (arith, nat_tests)

first_of_apart : (rs : List MappedRegion) (at n i : ℕ) (d : MappedRegion) → AreApart rs → i < length rs → 0 < n
    → holds at n (get_or rs i d) ≡ true → IsFirst rs at n i d
first_of_apart rs at n i d apart in_it some held =
    (in_it, held, λ k lt. apart_holds (get_or rs k d) (get_or rs i d) at n (apart k i d lt in_it) some held)

pub holders_are_seen : (rs : List MappedRegion) (at n i : ℕ) (d : MappedRegion) → AreApart rs → i < length rs → 0 < n
    → holds at n (get_or rs i d) ≡ true → region_at rs at n ≡ Some (get_or rs i d)
holders_are_seen rs at n i d apart in_it some held = seen_first rs at n i d (first_of_apart rs at n i d apart in_it some held)

pub holders_are_written : (rs : List MappedRegion) (at i : ℕ) (new : List ℕ) (d : MappedRegion) → AreApart rs → i < length rs
    → 0 < length new → holds at (length new) (get_or rs i d) ≡ true → written rs at new ≡ set rs i (with_bytes (get_or rs i d) at new)
holders_are_written rs at i new d apart in_it some held =
    wrote_first rs at i new d (first_of_apart rs at (length new) i d apart in_it some held)

-- regions that can be mapped are apart
meets_not : (a b : Region) → meets b a ≡ false → are_apart (fresh a) (fresh b) ≡ true
meets_not a b h = rw (length_of_zeros a.len, length_of_zeros b.len) (grind (arith, nat_tests))

abbrev none : Region
none = record { start = 0; len = 0; rights = record { 0 = 0 } }

pub mapped_regions_are_apart : (rs : List Region) → CanMap rs → AreApart (mapped rs).regions
mapped_regions_are_apart rs h i j d below in_it =
    let size : j < length rs = rw length-map at in_it in
    rw (get_or-map fresh rs i none d (omega arith), get_or-map fresh rs j none d size) (meets_not (get_or rs i none) (get_or rs j none) (h.apart i j none below size))

-- and stay so
length-written : (rs : List MappedRegion) (at : ℕ) (new : List ℕ) → length (written rs at new) ≡ length rs
length-written rs at new = simp length-map at (ap length (shapes_written rs at new))

same_shape : (rs : List MappedRegion) (at : ℕ) (new : List ℕ) (k : ℕ) (d : MappedRegion) → k < length rs
    → shape_of (get_or (written rs at new) k d) ≡ shape_of (get_or rs k d)
same_shape rs at new k d in_it =
    let size = length-written rs at new in
    sym (get_or-map shape_of (written rs at new) k d (shape_of d) (omega arith))
    ∙ ap (λ shapes. get_or shapes k (shape_of d)) (shapes_written rs at new) ∙ get_or-map shape_of rs k d (shape_of d) in_it

apart_by_shape : (a b c d : MappedRegion) → shape_of a ≡ shape_of c → shape_of b ≡ shape_of d → are_apart c d ≡ true → are_apart a b ≡ true
apart_by_shape a b c d ac bd apart =
    let a_start : a.start ≡ c.start = ap (λ (s : Shape). s.start) ac in
    let b_start : b.start ≡ d.start = ap (λ (s : Shape). s.start) bd in
    let a_size : length a.bytes ≡ length c.bytes = ap (λ (s : Shape). s.size) ac in
    let b_size : length b.bytes ≡ length d.bytes = ap (λ (s : Shape). s.size) bd in
    rw (a_start, b_start, a_size, b_size) apart

pub writes_keep_apart : (rs : List MappedRegion) (at : ℕ) (new : List ℕ) → AreApart rs → AreApart (written rs at new)
writes_keep_apart rs at new apart i j d below in_it =
    let size : j < length rs = rw length-written at in_it in
    apart_by_shape (get_or (written rs at new) i d) (get_or (written rs at new) j d) (get_or rs i d) (get_or rs j d) (same_shape rs at new i d (omega arith)) (same_shape rs at new j d size) (apart i j d below size)
