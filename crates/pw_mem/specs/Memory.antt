-- What a memory is, and what each of its calls answers and leaves.
use Rattle.std.specs.Prelude.{ℕ, ◌%◌, ◌==◌, Bool, true, ◌&&◌, ◌||◌, not, List, length, replicate, if◌then◌else◌, Option, Some, None, Result, Ok, Err}
use Rattle.pw_base.specs.Bytes.{le, le_bytes}
use Rattle.pw_mem.specs.declared.errors.Access.{Access}
use Rattle.pw_mem.specs.declared.errors.Access.TheVariants.{Misaligned, Unmapped, Denied}
use Rattle.pw_mem.specs.Regions.{MappedRegion, region_at, bytes_at, written}

-- a memory: its regions, and whether it is sealed
pub record Mem : Type 0 where
  pub regions : List MappedRegion
  pub sealed : Bool

-- the memory with other regions
abbrev pub with_regions : Mem → List MappedRegion → Mem
with_regions m regions = record m { regions = regions }

-- the widths that are loaded and stored, in bytes
abbrev pub is_width : ℕ → Bool
is_width n = n == 1 || n == 2 || n == 4 || n == 8

-- whether a store is allowed: sealed, an executable region is not written
abbrev pub may_store : Bool → MappedRegion → Bool
may_store sealed region = region.write && not (sealed && region.execute)

-- whether bytes may be put: before the seal always, then where a store may be
abbrev pub may_put : Bool → MappedRegion → Bool
may_put sealed region = not sealed || may_store sealed region

-- the number at an address, little-endian, where the region there has the right
abbrev pub number_in : (MappedRegion → Bool) → Option MappedRegion → ℕ → ℕ → Result ℕ Access
number_in allowed None at width = Err Unmapped
number_in allowed (Some region) at width =
    if allowed region then Ok (le (bytes_at region at width)) else Err Denied

-- the memory after bytes were written, where the region there allows it
abbrev pub mem_with : (MappedRegion → Bool) → Option MappedRegion → Mem → ℕ → List ℕ → Result Mem Access
mem_with allowed None m at new = Err Unmapped
mem_with allowed (Some region) m at new =
    if allowed region then Ok (with_regions m (written m.regions at new)) else Err Denied

-- what a load of a naturally aligned number gives
abbrev pub load : Mem → ℕ → ℕ → Result ℕ Access
load m at width =
    if at % width == 0 then number_in (λ region. region.read) (region_at m.regions at width) at width else Err Misaligned

-- the instruction word at an address, which is a multiple of 4
abbrev pub fetch : Mem → ℕ → Result ℕ Access
fetch m at = if at % 4 == 0 then number_in (λ region. region.execute) (region_at m.regions at 4) at 4 else Err Misaligned

-- the memory after the lowest bytes of a number were stored at a naturally aligned address
abbrev pub store : Mem → ℕ → ℕ → ℕ → Result Mem Access
store m at width value =
    if at % width == 0
    then mem_with (may_store m.sealed) (region_at m.regions at width) m at (le_bytes width value)
    else Err Misaligned

-- the memory after bytes were put at any address; no bytes change nothing
abbrev pub put : Mem → ℕ → List ℕ → Result Mem Access
put m at new =
    if length new == 0 then Ok m else mem_with (may_put m.sealed) (region_at m.regions at (length new)) m at new

-- so many bytes that are 0
unfoldable pub zeros : ℕ → List ℕ
zeros n = replicate n 0

-- the memory after `n` bytes were set to 0
abbrev pub zero_bytes : Mem → ℕ → ℕ → Result Mem Access
zero_bytes m at n = put m at (zeros n)

-- the memory, sealed
abbrev pub seal : Mem → Mem
seal m = record m { sealed = true }
