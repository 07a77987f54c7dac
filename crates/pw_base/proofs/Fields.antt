-- A field that is written is read, and one that is read is written so.
use Rattle.std.proofs.Common.{◌≡◌, ℕ, zero, suc, ◌+◌, ◌^◌, ◌<◌, ◌≤◌, Bool, true, false, cond, List, [], ◌∷◌, ◌++◌, length, take, drop, Some, None, refl, sym, ap, subst, ◌∙◌, arith, pow-suc, inl, inr}
use Rattle.std.proofs.lemmas.Bool.{cases_lt, leb-true, le-leb, lt-leb}
use Rattle.std.proofs.lemmas.List.{take_at, take-append-drop, length-append, length-take-le, length-drop}
use Rattle.pw_base.specs.Bytes.{AreBytes, le, le_bytes, le_at}
use Rattle.pw_base.specs.Field.{field, first_field, field_at}
use Rattle.pw_base.proofs.Bytes.{le-le_bytes, le_bytes-le, length-le_bytes}

-- the number of bytes below 256 is below the power of their count
le-below : (bytes : List ℕ) → AreBytes bytes → le bytes < 256 ^ length bytes
le-below [] small = omega arith
le-below (b ∷ bytes) small = let byte : b < 256 = small.0 in let rest = le-below bytes small.1 in rw (pow-suc 256 (length bytes)) (omega arith)

take-small : (n : ℕ) (bytes : List ℕ) → AreBytes bytes → AreBytes (take n bytes)
take-small zero bytes small = tt
take-small (suc n) [] small = tt
take-small (suc n) (b ∷ bytes) small = (small.0, take-small n bytes small.1)

-- a field has as many bytes as its width says
pub length-field : (width value : ℕ) → length (field width value) ≡ width
unfolding field
length-field width value = length-le_bytes width value

-- what is written as a field is read there, whatever follows
pub written_field_is_read : (width value : ℕ) (rest : List ℕ) → value < 256 ^ width → first_field width (field width value ++ rest) ≡ Some value
unfolding field first_field
written_field_is_read width value rest small =
    let len = length-le_bytes width value in
    let long = le-leb (0 + width) (length (le_bytes width value ++ rest)) (omega (arith, length-append (le_bytes width value) rest)) in
    rw (long, take_at (le_bytes width value) rest width len, le-le_bytes width value small) refl

-- two that are found are the same
pub some_is : {A : Type 0} (x y : A) → Some x ≡ Some y → x ≡ y
some_is x y e = cc

-- what is found where a test holds
pub found_where : {A : Type 0} (b : Bool) (x v : A) → cond b (Some x) None ≡ Some v → (b ≡ true) × (x ≡ v)
found_where true x v e = (refl, some_is x v e)
found_where false x v e = absurd cc

-- what is read as a field is written so
pub read_field_is_written : (width : ℕ) (bytes : List ℕ) (value : ℕ) → AreBytes bytes →
    first_field width bytes ≡ Some value → (bytes ≡ field width value ++ drop width bytes) × (value < 256 ^ width)
unfolding field first_field
read_field_is_written width bytes value small found =
    let parts = found_where _ (le (take width bytes)) value found in
    let long : width ≤ length bytes = omega (arith, leb-true _ _ parts.0) in
    let len : length (take width bytes) ≡ width = length-take-le width bytes long in
    let cells = take-small width bytes small in
    let back : le_bytes width value ≡ take width bytes = ap (λ (v : ℕ). le_bytes width v) (sym parts.1) ∙ ap (λ (n : ℕ). le_bytes n (le (take width bytes))) (sym len) ∙ le_bytes-le (take width bytes) cells in
    (rw back (sym (take-append-drop width bytes)), rw (← parts.1) (subst (λ (n : ℕ). le (take width bytes) < 256 ^ n) len (le-below (take width bytes) cells)))

-- the field at an offset is the number that the bytes there say
pub field_is_the_number_there : (width : ℕ) (bytes : List ℕ) (off : ℕ) → 1 ≤ width → field_at width bytes off ≡ le_at width bytes off
unfolding first_field
field_is_the_number_there width bytes off some =
    elim (cases_lt (length bytes) (off + width)) [
      | inl short ↦ let a = lt-leb (0 + width) (length (drop off bytes)) (omega (arith, length-drop off bytes)) in let b = lt-leb (off + width) (length bytes) short in rw (a, b) refl
      | inr long ↦ let a = le-leb (0 + width) (length (drop off bytes)) (omega (arith, length-drop off bytes)) in let b = le-leb (off + width) (length bytes) long in rw (a, b) refl
    ]
