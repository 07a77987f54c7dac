-- The laws of writes: what a store or a put leaves, and what is read afterwards.
use Rattle.std.specs.Prelude.{◌≡◌, ℕ, ◌+◌, ◌%◌, ◌^◌, ◌<◌, ◌≤◌, ◌⊎◌, Bool, true, false, List, length, map, filter, Option, Some, Ok, option_map}
use Rattle.pw_base.specs.Bytes.{le_bytes}
use Rattle.pw_mem.specs.Regions.{MappedRegion, region_at, bytes_at, written}
use Rattle.pw_mem.specs.Memory.{Mem, with_regions, load, store, fetch, put}

-- the `n` bytes at an address, where a region holds them
abbrev pub bytes_of : Mem → ℕ → ℕ → Option (List ℕ)
bytes_of m at n = option_map (λ region. bytes_at region at n) (region_at m.regions at n)

-- a region without its bytes
pub record Shape : Type 0 where
  pub start : ℕ
  pub size : ℕ
  pub read : Bool
  pub write : Bool
  pub execute : Bool

-- what a region is beside its bytes
abbrev pub shape_of : MappedRegion → Shape
shape_of region = record {
  start = region.start;
  size = length region.bytes;
  read = region.read;
  write = region.write;
  execute = region.execute;
}

-- these bytes were written at this address, into a region that was open to it, and nothing else was done
pub record HasWritten (old : Mem) (at : ℕ) (new : List ℕ) (after : Mem) : Type 0 where
  pub region : MappedRegion
  pub found : region_at old.regions at (length new) ≡ Some region
  pub no_text : old.sealed ≡ true → region.execute ≡ false
  pub is : after ≡ with_regions old (written old.regions at new)

-- a store writes the lowest bytes of its number
abbrev pub StoresWrite : Type 0
StoresWrite = (m n : Mem) (a width v : ℕ) → store m a width v ≡ Ok n → HasWritten m a (le_bytes width v) n

-- a put writes its bytes, where it has any
abbrev pub PutsWrite : Type 0
PutsWrite = (m n : Mem) (a : ℕ) (new : List ℕ) → 0 < length new → put m a new ≡ Ok n → HasWritten m a new n

-- the bytes that were written stand there
abbrev pub WrittenBytesAreRead : Type 0
WrittenBytesAreRead = (m n : Mem) (a : ℕ) (new : List ℕ) → HasWritten m a new n → bytes_of n a (length new) ≡ Some new

-- bytes beside them are what they were
abbrev pub OtherBytesStay : Type 0
OtherBytesStay =
    (m n : Mem) (a b k : ℕ) (new : List ℕ) → HasWritten m a new n → (a + length new ≤ b) ⊎ (b + k ≤ a)
    → bytes_of n b k ≡ bytes_of m b k

-- regions, rights and seal stay
abbrev pub ShapesStay : Type 0
ShapesStay =
    (m n : Mem) (a : ℕ) (new : List ℕ) → HasWritten m a new n
    → (map shape_of n.regions ≡ map shape_of m.regions) × (n.sealed ≡ m.sealed)

-- once the memory is sealed, the executable regions stay with their bytes
abbrev pub SealedTextStays : Type 0
SealedTextStays =
    (m n : Mem) (a : ℕ) (new : List ℕ) → HasWritten m a new n → m.sealed ≡ true
    → filter (λ region. region.execute) n.regions ≡ filter (λ region. region.execute) m.regions

-- and so does each instruction word
abbrev pub SealedInstructionsStay : Type 0
SealedInstructionsStay =
    (m n : Mem) (a b : ℕ) (new : List ℕ) → HasWritten m a new n → m.sealed ≡ true → fetch n b ≡ fetch m b

-- a number that was stored is loaded from there
abbrev pub StoresAreLoaded : Type 0
StoresAreLoaded =
    (m n : Mem) (a width u v : ℕ) → load m a width ≡ Ok u → store m a width v ≡ Ok n → load n a width ≡ Ok (v % 256 ^ width)

-- and numbers beside it are what they were
abbrev pub OtherNumbersStay : Type 0
OtherNumbersStay =
    (m n : Mem) (a b k : ℕ) (new : List ℕ) → HasWritten m a new n → (a + length new ≤ b) ⊎ (b + k ≤ a)
    → load n b k ≡ load m b k
