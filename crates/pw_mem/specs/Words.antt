-- Memory as doublewords, numbers of 8 bytes at aligned addresses that may be read and stored, and as instruction words of 4.
use Rattle.std.specs.Prelude.{ℕ, ◌%◌, ◌==◌, Bool, ◌&&◌, List, [], ◌∷◌, ◌++◌, if◌then◌else◌, Option, Some, None}
use Rattle.pw_base.specs.Bytes.{le, le_bytes}
use Rattle.pw_mem.specs.Regions.{MappedRegion, region_at, bytes_at, written}
use Rattle.pw_mem.specs.Memory.{Mem, with_regions, may_store}

-- the number of 8 bytes in a region that may be read and stored
abbrev pub doubleword_in : Bool → Option MappedRegion → ℕ → Option ℕ
doubleword_in sealed None at = None
doubleword_in sealed (Some region) at =
    if region.read && may_store sealed region then Some (le (bytes_at region at 8)) else None

-- the doubleword at an address, where there is one
abbrev pub doubleword : Mem → ℕ → Option ℕ
doubleword m at = if at % 8 == 0 then doubleword_in m.sealed (region_at m.regions at 8) at else None

-- the memory with another doubleword at an address that has one
abbrev pub put_doubleword : Mem → ℕ → ℕ → Mem
put_doubleword m at value = with_regions m (written m.regions at (le_bytes 8 value))

-- the bytes of instruction words
abbrev pub text_bytes : List ℕ → List ℕ
text_bytes [] = []
text_bytes (w ∷ ws) = le_bytes 4 w ++ text_bytes ws
