-- The numbers and bytes of `byteorder`'s little endian order are those of a field.
use Rattle.std.proofs.Common.{◌≡◌, ℕ, zero, suc, ◌+◌, ◌-◌, ◌*◌, ◌/◌, ◌%◌, ◌^◌, ◌<◌, ◌≤◌, List, [], ◌∷◌, ◌++◌, length, take, drop, Some, None, refl, sym, ap, ◌∙◌, arith, pow-suc}
use Rattle.std.proofs.Math.Nat.{div-div-eq-div-mul, div-one}
use Rattle.std.proofs.lemmas.Bool.{le-leb, lt-leb}
use Rattle.std.proofs.lemmas.List.{length-drop}
use Rattle.std.specs.Int.{byte_at, bytes_low_first}
use Rattle.byteorder.specs.Endian.{little_from}
use Rattle.byteorder.specs.Numbers.{little_from-cons}
use Rattle.pw_base.specs.Bytes.{le, le_bytes}
use Rattle.pw_base.specs.Field.{field, first_field, field_at}

little_is_le : (n : ℕ) (bytes : List ℕ) → n ≤ length bytes → little_from 0 n bytes ≡ le (take n bytes)
little_is_le zero bytes long = refl
little_is_le (suc n) [] long = absurd (omega arith)
little_is_le (suc n) (b ∷ bytes) long = rw (little_from-cons 0 n b bytes, little_is_le n bytes (omega arith)) refl

byte_is : (i value : ℕ) → byte_at i value ≡ value / 256 ^ i % 256
byte_is zero value = ap (λ (v : ℕ). v % 256) (sym (div-one value))
byte_is (suc i) value = refl

low_first_is_le_bytes : (i n value : ℕ) → bytes_low_first i n value ≡ le_bytes n (value / 256 ^ i)
low_first_is_le_bytes i zero value = refl
low_first_is_le_bytes i (suc n) value =
    let shift : value / 256 ^ suc i ≡ value / 256 ^ i / 256 = ap (λ (p : ℕ). value / p) (pow-suc 256 i) ∙ sym (div-div-eq-div-mul value (256 ^ i) 256) in
    rw (byte_is i value, low_first_is_le_bytes (suc i) n value, shift) refl

-- what is written
pub bytes_are_field : (n value : ℕ) → bytes_low_first 0 n value ≡ field n value
unfolding field
bytes_are_field n value = low_first_is_le_bytes 0 n value ∙ ap (le_bytes n) (div-one value)

-- what is read, where the bytes are all there
pub number_is_field : (n off : ℕ) (bytes rest : List ℕ) → rest ≡ drop off bytes → off + n ≤ length bytes →
    Some (little_from 0 n rest) ≡ field_at n bytes off
unfolding first_field
number_is_field n off bytes rest is long =
    let enough = le-leb (0 + n) (length (drop off bytes)) (omega (arith, length-drop off bytes)) in
    rw (is, enough, little_is_le n (drop off bytes) (omega (arith, length-drop off bytes))) refl

-- and that none is read where they pass the end
pub no_field : (n off : ℕ) (bytes : List ℕ) → 1 ≤ n → length bytes < off + n → None ≡ field_at n bytes off
unfolding first_field
no_field n off bytes some short = let few = lt-leb (0 + n) (length (drop off bytes)) (omega (arith, length-drop off bytes)) in rw few refl
