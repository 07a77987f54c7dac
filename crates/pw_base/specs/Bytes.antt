-- Numbers as bytes, the lowest first (gABI, "Data Encoding": ELFDATA2LSB).
use Rattle.std.specs.Prelude.{◌≡◌, ℕ, zero, suc, ◌+◌, ◌*◌, ◌/◌, ◌%◌, ◌^◌, ◌<◌, List, [], ◌∷◌, length, take, drop, Option, Some, None, if◌then◌else◌, nat_le}
use Rattle.std.specs.List.{AllByRecursion}

-- the number that bytes say
abbrev pub le : List ℕ → ℕ
le [] = 0
le (b ∷ bs) = b + 256 * le bs

-- the lowest `n` bytes of a number
abbrev pub le_bytes : ℕ → ℕ → List ℕ
le_bytes zero v = []
le_bytes (suc n) v = v % 256 ∷ le_bytes n (v / 256)

-- the number that the `n` bytes at `at` say, where they are all there
abbrev pub le_at : ℕ → List ℕ → ℕ → Option ℕ
le_at n bytes at = if nat_le (at + n) (length bytes) then Some (le (take n (drop at bytes))) else None

-- each number is a byte's
abbrev pub AreBytes : List ℕ → Type 0
AreBytes bytes = AllByRecursion (λ byte. byte < 256) bytes

-- a value below 256 ^ n is what its n bytes say
abbrev pub BytesGiveValue : Type 0
BytesGiveValue = (n v : ℕ) → v < 256 ^ n → le (le_bytes n v) ≡ v

-- bytes are those of the value that they say
abbrev pub ValueGivesBytes : Type 0
ValueGivesBytes = (bytes : List ℕ) → AreBytes bytes → le_bytes (length bytes) (le bytes) ≡ bytes
