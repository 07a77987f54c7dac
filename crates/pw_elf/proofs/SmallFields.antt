-- A field of one byte is that byte, and where bytes at an offset are all there.
use Rattle.std.proofs.Common.{◌≡◌, ℕ, ◌+◌, ◌-◌, ◌*◌, ◌%◌, ◌^◌, ◌<◌, ◌≤◌, List, [], ◌∷◌, ◌++◌, length, take, drop, get_or, Some, None, refl, ap, ◌∙◌, arith}
use Rattle.std.proofs.lemmas.Bool.{le-leb, lt-leb}
use Rattle.std.proofs.lemmas.List.{length-drop, drop_more}
use Rattle.pw_base.specs.Bytes.{le}
use Rattle.pw_base.specs.Field.{field, first_field, field_at}
use Rattle.pw_base.specs.Structs.{slice_at}

-- a byte that is there is the field
pub byte_is_field : (bytes : List ℕ) (off d : ℕ) → off < length bytes → Some (get_or bytes off d) ≡ field_at 1 bytes off
unfolding first_field
byte_is_field bytes off d within =
    let enough = le-leb (0 + 1) (length (drop off bytes)) (omega (arith, length-drop off bytes)) in
    let value : get_or bytes off d ≡ get_or bytes off d + 256 * 0 = omega arith in
    rw (enough, drop_more bytes off d within) (ap (λ (v : ℕ). Some v) value)

-- and past the end there is none
pub no_byte : (bytes : List ℕ) (off : ℕ) → length bytes ≤ off → None ≡ field_at 1 bytes off
unfolding first_field
no_byte bytes off past = let few = lt-leb (0 + 1) (length (drop off bytes)) (omega (arith, length-drop off bytes)) in rw few refl

-- a byte is a field's bytes
pub byte_is_written : (n : ℕ) → n < 256 → n ∷ [] ≡ field 1 n
unfolding field
byte_is_written n small = let same : n ≡ n % 256 = omega arith in ap (λ (b : ℕ). b ∷ []) same

-- bytes that are there, and that are not
pub bytes_there : (n off : ℕ) (bytes : List ℕ) → off + n ≤ length bytes → Some (take n (drop off bytes)) ≡ slice_at n bytes off
unfolding slice_at
bytes_there n off bytes within = let enough = le-leb (off + n) (length bytes) within in rw enough refl

pub bytes_not_there : (n off : ℕ) (bytes : List ℕ) → length bytes < off + n → None ≡ slice_at n bytes off
unfolding slice_at
bytes_not_there n off bytes short = let few = lt-leb (off + n) (length bytes) short in rw few refl
