-- Regions with no address in common: then an address says its region.
use Rattle.std.specs.Prelude.{◌≡◌, ℕ, ◌+◌, ◌<◌, Bool, true, ◌||◌, nat_le, List, length, slice_index_or, slice_set, Some, AllPairs}
use Rattle.pw_mem.specs.declared.region.Region.{Region}
use Rattle.pw_mem.specs.Regions.{MappedRegion, holds, region_at, with_bytes, written}
use Rattle.pw_mem.specs.Map.{CanMap, mapped}

-- whether two regions have no address in common
abbrev pub are_apart : MappedRegion → MappedRegion → Bool
are_apart a b = nat_le (a.start + length a.bytes) b.start || nat_le (b.start + length b.bytes) a.start

-- no two of them have
abbrev pub AreApart : List MappedRegion → Type 0
AreApart regions = AllPairs (λ a b. are_apart a b ≡ true) regions

-- regions that can be mapped are apart once they are mapped
abbrev pub MappedRegionsAreApart : Type 0
MappedRegionsAreApart = (regions : List Region) → CanMap regions → AreApart (mapped regions).regions

-- and stay so under writes
abbrev pub WritesKeepApart : Type 0
WritesKeepApart = (regions : List MappedRegion) (a : ℕ) (new : List ℕ) → AreApart regions → AreApart (written regions a new)

-- the region that holds some bytes is the one that is seen at them
abbrev pub HoldersAreSeen : Type 0
HoldersAreSeen =
    (regions : List MappedRegion) (a n i : ℕ) (d : MappedRegion) → AreApart regions → i < length regions → 0 < n
    → holds a n (slice_index_or regions i d) ≡ true → region_at regions a n ≡ Some (slice_index_or regions i d)

-- and the one that they are written into
abbrev pub HoldersAreWritten : Type 0
HoldersAreWritten =
    (regions : List MappedRegion) (a i : ℕ) (new : List ℕ) (d : MappedRegion) → AreApart regions → i < length regions
    → 0 < length new → holds a (length new) (slice_index_or regions i d) ≡ true
    → written regions a new ≡ slice_set regions i (with_bytes (slice_index_or regions i d) a new)
