-- What a search among the regions of a memory finds.
use Rattle.std.specs.Prelude.{◌≡◌, ℕ, ◌<◌, true, List, length, Some, slice_index_or, slice_set}
use Rattle.pw_mem.specs.declared.flat_region.FlatRegion.{FlatRegion}
use Rattle.pw_mem.specs.declared.flat.FlatMemory.{FlatMemory}
use Rattle.pw_mem.specs.Regions.{holds, region_at, with_bytes, written}
use Rattle.pw_mem.specs.Flat.{region_of, mem_of}

-- the region with this number is the one that holds these bytes: it is seen there, and a write goes into it
pub record IsFound (memory : FlatMemory) (at n i : ℕ) : Type 0 where
  pub inside : i < length memory.regions.items
  pub held : (region : FlatRegion) → region ≡ slice_index_or memory.regions.items i region
      → holds at n (region_of region) ≡ true
  pub seen : (region : FlatRegion) → region ≡ slice_index_or memory.regions.items i region
      → region_at (mem_of memory).regions at n ≡ Some (region_of region)
  pub wrote : (region : FlatRegion) (new : List ℕ) → region ≡ slice_index_or memory.regions.items i region → length new ≡ n
      → written (mem_of memory).regions at new ≡ slice_set (mem_of memory).regions i (with_bytes (region_of region) at new)
