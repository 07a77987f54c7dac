-- A value and its bytes give each other back.
use Rattle.std.proofs.Common.{◌≡◌, ℕ, zero, suc, ◌+◌, ◌*◌, ◌/◌, ◌%◌, ◌^◌, ◌<◌, List, [], ◌∷◌, length, drop, refl, arith, ap}
use Rattle.pw_base.specs.Bytes.{AreBytes, le, le_bytes}

-- the lowest n bytes of a value below 256 ^ n say it
pub le-le_bytes : (n v : ℕ) → v < 256 ^ n → le (le_bytes n v) ≡ v
le-le_bytes zero v small = omega arith
le-le_bytes (suc n) v small =
    let fits : v / 256 < 256 ^ n = grind arith in rw (le-le_bytes n (v / 256) fits) (omega arith)

-- bytes are those of the number that they say
pub le_bytes-le : (bytes : List ℕ) → AreBytes bytes → le_bytes (length bytes) (le bytes) ≡ bytes
le_bytes-le [] small = refl
le_bytes-le (b ∷ bs) small =
    let byte : b < 256 = small.0 in
    let low : (b + 256 * le bs) % 256 ≡ b = omega arith in
    let high : (b + 256 * le bs) / 256 ≡ le bs = omega arith in rw (low, high, le_bytes-le bs small.1) refl

-- n bytes of a value are n
pub length-le_bytes : (n v : ℕ) → length (le_bytes n v) ≡ n
length-le_bytes zero v = refl
length-le_bytes (suc n) v = ap (λ k. suc k) (length-le_bytes n (v / 256))

-- what is left of bytes are bytes
pub AreBytes-drop : (n : ℕ) (bytes : List ℕ) → AreBytes bytes → AreBytes (drop n bytes)
AreBytes-drop zero bytes are = are
AreBytes-drop (suc n) [] are = tt
AreBytes-drop (suc n) (b ∷ bytes) are = AreBytes-drop n bytes are.1
