-- The laws of doublewords and of instruction words: all that a machine's programs need to know of memory.
use Rattle.std.specs.Prelude.{◌≡◌, ◌≢◌, ℕ, ◌+◌, ◌*◌, ◌%◌, ◌^◌, ◌<◌, true, List, ◌++◌, length, slice_index, Some, Ok}
use Rattle.pw_mem.specs.Regions.{MappedRegion, region_at}
use Rattle.pw_mem.specs.Memory.{Mem, load, store, fetch}
use Rattle.pw_mem.specs.Words.{doubleword, put_doubleword, text_bytes}

-- a doubleword is what a load of 8 bytes gives
abbrev pub DoublewordsAreLoaded : Type 0
DoublewordsAreLoaded = (m : Mem) (a v : ℕ) → doubleword m a ≡ Some v → load m a 8 ≡ Ok v

-- a store of 8 bytes puts another in its place
abbrev pub DoublewordsAreStored : Type 0
DoublewordsAreStored = (m : Mem) (a v x : ℕ) → doubleword m a ≡ Some v → store m a 8 x ≡ Ok (put_doubleword m a x)

-- which is the doubleword there then
abbrev pub StoredDoublewordsAreRead : Type 0
StoredDoublewordsAreRead = (m : Mem) (a v x : ℕ) → x < 2 ^ 64 → doubleword m a ≡ Some v → doubleword (put_doubleword m a x) a ≡ Some x

-- and every other doubleword stays
abbrev pub OtherDoublewordsStay : Type 0
OtherDoublewordsStay = (m : Mem) (a b v x : ℕ) → doubleword m a ≡ Some v → a ≢ b → doubleword (put_doubleword m a x) b ≡ doubleword m b

-- once the memory is sealed, storing a doubleword changes no instruction
abbrev pub DoublewordsAreNoText : Type 0
DoublewordsAreNoText = (m : Mem) (a b v x : ℕ) → m.sealed ≡ true → doubleword m a ≡ Some v → fetch (put_doubleword m a x) b ≡ fetch m b

-- instruction word `k` of the text that an executable region begins with is fetched from its place
abbrev pub TextIsFetched : Type 0
TextIsFetched =
    (m : Mem) (r : MappedRegion) (ws pad : List ℕ) (k : ℕ) → region_at m.regions (r.start + 4 * k) 4 ≡ Some r → r.execute ≡ true
    → r.start % 4 ≡ 0 → r.bytes ≡ text_bytes ws ++ pad → k < length ws → slice_index ws k < 2 ^ 32
    → fetch m (r.start + 4 * k) ≡ Ok (slice_index ws k)
