-- The regions of a memory with their bytes, and what stands at an address.
use Rattle.std.specs.Prelude.{ℕ, ◌+◌, ◌-◌, Bool, ◌&&◌, nat_le, List, [], ◌∷◌, ◌++◌, length, take, drop, find, if◌then◌else◌, Option}

-- a region: its first address, its bytes, and what may be done to it
pub record MappedRegion : Type 0 where
  pub start : ℕ
  pub bytes : List ℕ
  pub read : Bool
  pub write : Bool
  pub execute : Bool

-- whether a region holds all of the `n` bytes from an address on
abbrev pub holds : ℕ → ℕ → MappedRegion → Bool
holds at n region = nat_le region.start at && nat_le (at + n) (region.start + length region.bytes)

-- the first region that holds them
abbrev pub region_at : List MappedRegion → ℕ → ℕ → Option MappedRegion
region_at regions at n = find (holds at n) regions

-- the `n` bytes of a region from an address on
abbrev pub bytes_at : MappedRegion → ℕ → ℕ → List ℕ
bytes_at region at n = take n (drop (at - region.start) region.bytes)

-- the region after these bytes were written at an address
abbrev pub with_bytes : MappedRegion → ℕ → List ℕ → MappedRegion
with_bytes region at new =
    let place = at - region.start in
    record region { bytes = take place region.bytes ++ new ++ drop (place + length new) region.bytes }

-- the regions after these bytes were written into the first that holds their places
abbrev pub written : List MappedRegion → ℕ → List ℕ → List MappedRegion
written [] at new = []
written (region ∷ regions) at new =
    if holds at (length new) region then with_bytes region at new ∷ regions else region ∷ written regions at new
