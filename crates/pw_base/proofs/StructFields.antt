-- What a field, or some bytes, of a struct say of where they stand.
use Rattle.std.proofs.Common.{◌≡◌, ℕ, ℤ, ◌+◌, ◌<◌, ◌≤◌, ◌^◌, true, List, ◌++◌, length, take, drop, Option, Some, None, refl, sym, ap, subst, ◌∙◌, arith, FitsSigned, w64}
use Rattle.std.specs.Int.{cast_signed, cast_unsigned}
use Rattle.std.proofs.Math.Facts.{Fits-of_z, Fits-of_lt, of_z-to_z, to_z-of_z, sfits_to_z}
use Rattle.std.proofs.lemmas.Bool.{leb-true, le-leb}
use Rattle.std.proofs.lemmas.List.{take-append-drop, length-append, length-take-le, length-drop}
use Rattle.pw_base.specs.Bytes.{AreBytes}
use Rattle.pw_base.specs.Field.{field, field_at}
use Rattle.pw_base.specs.Laid.{Has}
use Rattle.pw_base.specs.Structs.{◌>>=◌, slice_at}
use Rattle.pw_base.proofs.Bytes.{AreBytes-drop}
use Rattle.pw_base.proofs.Fields.{length-field, read_field_is_written, found_where}
use Rattle.pw_base.proofs.LaidParts.{Has-left, Has-right, Has-slice, Has-inside, Has-field}

-- the value of a step that does not pass the end
pub bind_some : {A B : Type 0} (o : Option A) (f : A → Option B) (y : B) → (o >>= f) ≡ Some y → (x : A) × (o ≡ Some x) × (f x ≡ Some y)
bind_some (Some x) f y e = (x, refl, e)
bind_some None f y e = absurd cc

-- bytes with others before them are as many together
pub longer : (x y : List ℕ) (m n : ℕ) → length x ≡ m → length y ≡ n → length (x ++ y) ≡ m + n
longer x y m n x_is y_is = omega (arith, length-append x y, x_is, y_is)

-- a field that stands after other bytes is read there, and these stand before it
pub takes_last : (bytes : List ℕ) (off count width : ℕ) (before : List ℕ) (value : ℕ) → length before ≡ count →
    value < 256 ^ width → Has bytes off (before ++ field width value)
    → (field_at width bytes (off + count) ≡ Some value) × Has bytes off before
takes_last bytes off count width before value len small stands =
    (Has-field bytes (off + count) width value small (Has-right bytes off count before (field width value) len stands), Has-left bytes off before (field width value) stands)

-- bytes that stand somewhere are read there
pub takes_slice : (bytes : List ℕ) (off count : ℕ) (x : List ℕ) → length x ≡ count → Has bytes off x → slice_at count bytes off ≡ Some x
unfolding slice_at
takes_slice bytes off count x len stands =
    let enough = le-leb (off + count) (length bytes) (omega (arith, Has-inside bytes off x stands, len)) in
    rw enough (ap (λ (t : List ℕ). Some t) (Has-slice bytes off count x len stands))

-- bytes up to an offset, and from there on
stands_at : (bytes : List ℕ) (here : ℕ) (x rest : List ℕ) → here ≤ length bytes → drop here bytes ≡ x ++ rest → Has bytes here x
stands_at bytes here x rest within is =
    record { before = take here bytes; after = rest; parts = sym (take-append-drop here bytes) ∙ ap (λ (t : List ℕ). take here bytes ++ t) is; at = length-take-le here bytes within }

-- a field that is read somewhere stands there, and its value has its width
pub has_field : (width : ℕ) (bytes : List ℕ) (here value : ℕ) → AreBytes bytes → 1 ≤ width → field_at width bytes here ≡ Some value
    → (value < 256 ^ width) × Has bytes here (field width value)
has_field width bytes here value are some found =
    let parts = read_field_is_written width (drop here bytes) value (AreBytes-drop here bytes are) found in
    let rest = drop width (drop here bytes) in
    let count : length (drop here bytes) ≡ length (field width value ++ rest) = ap (λ (t : List ℕ). length t) parts.0 in
    let within : here ≤ length bytes = omega (arith, count, length-append (field width value) rest, length-field width value, length-drop here bytes) in
    (parts.1, stands_at bytes here (field width value) rest within parts.0)

-- and so do some bytes
pub has_slice : (count : ℕ) (bytes : List ℕ) (here : ℕ) (x : List ℕ) → slice_at count bytes here ≡ Some x → (length x ≡ count) × Has bytes here x
unfolding slice_at
has_slice count bytes here x found =
    let parts = found_where _ (take count (drop here bytes)) x found in
    let inside : here + count ≤ length bytes = leb-true _ _ parts.0 in
    let len : length (take count (drop here bytes)) ≡ count = length-take-le count (drop here bytes) (omega (arith, length-drop here bytes, inside)) in
    let whole : Has bytes here (take count (drop here bytes)) = stands_at bytes here _ (drop count (drop here bytes)) (omega (arith, inside)) (sym (take-append-drop count (drop here bytes))) in
    subst (λ (t : List ℕ). (length t ≡ count) × Has bytes here t) parts.1 (len, whole)

-- ---- signed numbers of eight bytes

pub signed_fits : (z : ℤ) → FitsSigned w64 z → cast_unsigned w64 z < 256 ^ 8
signed_fits z fits = (Fits-of_z fits).fits

pub signed_again : (z : ℤ) → FitsSigned w64 z → cast_signed w64 (cast_unsigned w64 z) ≡ z
signed_again z fits = to_z-of_z fits

pub bits_fit : (n : ℕ) → n < 256 ^ 8 → FitsSigned w64 (cast_signed w64 n)
bits_fit n small = sfits_to_z (Fits-of_lt {w = w64} {n = n} small)

pub bits_again : (n : ℕ) → n < 256 ^ 8 → cast_unsigned w64 (cast_signed w64 n) ≡ n
bits_again n small = of_z-to_z (Fits-of_lt {w = w64} {n = n} small)
