-- The bytes of words and doublewords, the lowest first, as std gives them.
use Rattle.std.proofs.Common.{◌≡◌, ℕ, ◌+◌, ◌/◌, ◌%◌, ◌<◌, ◌^◌, List, [], ◌∷◌, ◌++◌, length, take, get_or, append_assoc, refl, ap, sym, ◌∙◌, arith}
use Rattle.std.proofs.lemmas.List.{take_more}
use Rattle.pw_base.specs.Bytes.{le_bytes}
use Rattle.pw_mem.specs.Words.{text_bytes}

-- The bytes of words that follow one another.
pub text_bytes-append : (vs ws : List ℕ) → text_bytes (vs ++ ws) ≡ text_bytes vs ++ text_bytes ws
text_bytes-append [] ws = refl
text_bytes-append (v ∷ vs) ws =
    ap (λ rest. le_bytes 4 v ++ rest) (text_bytes-append vs ws) ∙ sym (append_assoc (le_bytes 4 v) (text_bytes vs) (text_bytes ws))

-- The four bytes of a number.
pub four_bytes : (v : ℕ) → v % 256 ∷ v / 256 % 256 ∷ v / 65536 % 256 ∷ v / 16777216 % 256 ∷ [] ≡ le_bytes 4 v
four_bytes v =
    let a : v / 65536 ≡ v / 256 / 256 = omega arith in
    let b : v / 16777216 ≡ v / 256 / 256 / 256 = omega arith in
    rw (a, b) refl

-- The bytes of one word more.
pub text_bytes-more : (ws : List ℕ) (i d : ℕ) → i < length ws →
    text_bytes (take (i + 1) ws) ≡ text_bytes (take i ws) ++ le_bytes 4 (get_or ws i d)
text_bytes-more ws i d inside = ap text_bytes (take_more ws i d inside) ∙ text_bytes-append (take i ws) (get_or ws i d ∷ [])

-- The eight lowest bytes of a number are those of its lowest 64 bits.
pub eight_bytes : (v n : ℕ) → n ≡ v % 2 ^ 64 →
    n % 256 ∷ n / 256 % 256 ∷ n / 65536 % 256 ∷ n / 16777216 % 256
    ∷ n / 4294967296 % 256 ∷ n / 1099511627776 % 256 ∷ n / 281474976710656 % 256 ∷ n / 72057594037927936 % 256 ∷ []
    ≡ le_bytes 8 v
eight_bytes v n is =
    let a : n % 256 ≡ v % 256 = omega arith in
    let b : n / 256 % 256 ≡ v / 256 % 256 = omega arith in
    let c : n / 65536 % 256 ≡ v / 256 / 256 % 256 = omega arith in
    let d : n / 16777216 % 256 ≡ v / 256 / 256 / 256 % 256 = omega arith in
    let e : n / 4294967296 % 256 ≡ v / 256 / 256 / 256 / 256 % 256 = omega arith in
    let f : n / 1099511627776 % 256 ≡ v / 256 / 256 / 256 / 256 / 256 % 256 = omega arith in
    let g : n / 281474976710656 % 256 ≡ v / 256 / 256 / 256 / 256 / 256 / 256 % 256 = omega arith in
    let h : n / 72057594037927936 % 256 ≡ v / 256 / 256 / 256 / 256 / 256 / 256 / 256 % 256 = omega arith in
    rw (a, b, c, d, e, f, g, h) refl
