-- Which regions can be mapped, and the memory that they make.
use Rattle.std.specs.Prelude.{◌≡◌, ℕ, ◌+◌, ◌%◌, ◌^◌, ◌<◌, ◌==◌, Bool, true, false, ◌&&◌, nat_lt, bit_and, List, length, take, map, slice_index_or, All, AllPairs}
use Rattle.std.specs.List.{list_any}
use Rattle.pw_mem.specs.declared.errors.MapError.{MapError}
use Rattle.pw_mem.specs.declared.errors.MapError.TheVariants.{Unaligned, Overlap, NoMemory}
use Rattle.pw_mem.specs.declared.region.Region.{Region}
use Rattle.pw_mem.specs.declared.rights.Rights.{Rights}
use Rattle.pw_mem.specs.Regions.{MappedRegion}
use Rattle.pw_mem.specs.Memory.{Mem, zeros}

-- whether a right is among these
abbrev pub allows : Rights → ℕ → Bool
allows rights right = bit_and rights.0 right == right

-- the region as it is mapped, all its bytes 0
abbrev pub fresh : Region → MappedRegion
fresh region = record {
  start = region.start;
  bytes = zeros region.len;
  read = allows region.rights 1;
  write = allows region.rights 2;
  execute = allows region.rights 4;
}

-- the memory that these regions make
abbrev pub mapped : List Region → Mem
mapped regions = record { regions = map fresh regions; sealed = false }

-- whether start and length are multiples of 8, and it has a byte and ends within the addresses
abbrev pub is_aligned : Region → Bool
is_aligned region =
    region.start % 8 == 0 && region.len % 8 == 0 && nat_lt 0 region.len && nat_lt (region.start + region.len) (2 ^ 64)

-- whether two regions have an address in common
abbrev pub meets : Region → Region → Bool
meets a b = nat_lt a.start (b.start + b.len) && nat_lt b.start (a.start + a.len)

-- these regions can be mapped together
pub record CanMap (regions : List Region) : Type 0 where
  pub aligned : All (λ region. is_aligned region ≡ true) regions
  pub apart : AllPairs (λ earlier later. meets later earlier ≡ false) regions

-- region number `i`, from 0
abbrev pub IsNumber : List Region → ℕ → Region → Type 0
IsNumber regions i region = (i < length regions) × (slice_index_or regions i region ≡ region)

-- the fault of the least faulty region: those before it can be mapped, and it is not aligned, or it meets one of
-- them; memory is found wanting only where there is no fault, or more regions than a number of a region can say
abbrev pub IsFault : List Region → MapError → Type 0
IsFault regions (Unaligned i) =
    CanMap (take i regions) × (region : Region) × IsNumber regions i region × (is_aligned region ≡ false)
IsFault regions (Overlap i) =
    CanMap (take i regions) × (region : Region) × IsNumber regions i region × (is_aligned region ≡ true)
    × (list_any (meets region) (take i regions) ≡ true)
IsFault regions NoMemory = length regions < 2 ^ 32 → CanMap regions
