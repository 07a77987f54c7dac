-- The tests of names and of type strings hold exactly where the facts do.
use Rattle.std.proofs.Common.{◌≡◌, ℕ, ◌-◌, ◌≤◌, List, [], ◌∷◌, ◌++◌, length, decimal, refl, ap, ◌∙◌, arith, inl, inr, codes}
use Rattle.std.specs.Bool.{Decides}
use Rattle.std.specs.Str.Parse.{digits_value}
use Rattle.std.proofs.lemmas.Bool.{and_parts, and_from, or_cases, or_left, or_right, leb-true, le-leb}
use Rattle.std.proofs.lemmas.List.{take_at, length-append}
use Rattle.std.proofs.lemmas.Slice.Eq.{bytes_eq-Decides}
use Rattle.std.proofs.lemmas.Fmt.{decimal_is_IsNumeral, length-decimal-le}
use Rattle.pw_base.specs.Limits.{name_bytes, parameters, array_elements}
use Rattle.pw_base.specs.Name.{IsName}
use Rattle.pw_base.specs.TypeText.{IsLetterText, IsFunctionText, IsArrayText, IsSize, IsTypeText}
use Rattle.pw_base.specs.Tests.{is_name, is_size, first, between, is_letter_text, is_function_text, is_array_text, is_type_text}

-- a name's test
pub name_test_is_right : (bytes : List ℕ) → Decides (is_name bytes) (IsName bytes)
unfolding is_name
name_test_is_right bytes = (
  λ test.
      let ab = and_parts _ _ test in
      let a = and_parts _ _ ab.0 in
      record { some = leb-true 1 (length bytes) a.0; short = leb-true (length bytes) name_bytes a.1; good = ab.1 },
  λ is. and_from _ _ (and_from _ _ (le-leb 1 (length bytes) is.some) (le-leb (length bytes) name_bytes is.short)) is.good,
)

-- a size's: its digits are those of their value
size_test_is_right : (digits : List ℕ) → Decides (is_size digits) (IsSize digits)
unfolding is_size
size_test_is_right digits = (
  λ test.
      let ab = and_parts _ _ test in
      let a = and_parts _ _ ab.0 in
      record { size = digits_value 10 digits; spelled = (bytes_eq-Decides digits (decimal (digits_value 10 digits))).0 ab.1; some = leb-true _ _ a.0; within = leb-true _ _ a.1 },
  λ is.
      let within = is.within in
      let value : digits_value 10 digits ≡ is.size = ap (λ (ds : List ℕ). digits_value 10 ds) is.spelled ∙ (decimal_is_IsNumeral is.size (omega arith)).1 in
      rw value (and_from _ _ (and_from _ _ (le-leb 1 is.size is.some) (le-leb is.size array_elements is.within)) ((bytes_eq-Decides digits (decimal is.size)).1 is.spelled)),
)

letter_test_is_right : (bytes : List ℕ) → Decides (is_letter_text bytes) (IsLetterText bytes)
unfolding is_letter_text
letter_test_is_right bytes = (
  λ test. let a = and_parts _ _ test in record { letter = first bytes; spelled = (bytes_eq-Decides bytes (first bytes ∷ [])).0 a.0; typed = a.1 },
  λ is.
      let same : first bytes ≡ is.letter = ap (λ (bs : List ℕ). first bs) is.spelled in
      rw same (and_from _ _ ((bytes_eq-Decides bytes (is.letter ∷ [])).1 is.spelled) is.typed),
)

-- what stands between the first two bytes and the last
between_is : (a b c : ℕ) (inner : List ℕ) → between (a ∷ b ∷ inner ++ c ∷ []) ≡ inner
between_is a b c inner =
    let len : length (a ∷ b ∷ inner ++ c ∷ []) - 3 ≡ length inner = omega (arith, length-append inner (c ∷ [])) in
    rw len (take_at inner (c ∷ []) (length inner) refl)

function_test_is_right : (bytes : List ℕ) → Decides (is_function_text bytes) (IsFunctionText bytes)
unfolding is_function_text
function_test_is_right bytes = (
  λ test.
      let ab = and_parts _ _ test in
      let a = and_parts _ _ ab.0 in
      let b = and_parts _ _ ab.1 in
      record {
        result = first bytes;
        params = between bytes;
        spelled = (bytes_eq-Decides bytes (first bytes ∷ codes "(" ++ between bytes ++ codes ")")).0 a.0;
        typed = a.1;
        valued = b.0;
        few = leb-true _ _ b.1;
      },
  λ is.
      let letter : first bytes ≡ is.result = ap (λ (bs : List ℕ). first bs) is.spelled in
      let inner : between bytes ≡ is.params = ap between is.spelled ∙ between_is is.result 40 41 is.params in
      rw (letter, inner) (and_from _ _ (and_from _ _ ((bytes_eq-Decides bytes (is.result ∷ codes "(" ++ is.params ++ codes ")")).1 is.spelled) is.typed) (and_from _ _ is.valued (le-leb (length is.params) parameters is.few))),
)

array_test_is_right : (bytes : List ℕ) → Decides (is_array_text bytes) (IsArrayText bytes)
unfolding is_array_text
array_test_is_right bytes = (
  λ test.
      let ab = and_parts _ _ test in
      let a = and_parts _ _ ab.0 in
      record {
        element = first bytes;
        digits = between bytes;
        spelled = (bytes_eq-Decides bytes (first bytes ∷ codes "[" ++ between bytes ++ codes "]")).0 a.0;
        valued = a.1;
        sized = (size_test_is_right (between bytes)).0 ab.1;
      },
  λ is.
      let letter : first bytes ≡ is.element = ap (λ (bs : List ℕ). first bs) is.spelled in
      let inner : between bytes ≡ is.digits = ap between is.spelled ∙ between_is is.element 91 93 is.digits in
      rw (letter, inner) (and_from _ _ (and_from _ _ ((bytes_eq-Decides bytes (is.element ∷ codes "[" ++ is.digits ++ codes "]")).1 is.spelled) is.valued) ((size_test_is_right is.digits).1 is.sized)),
)

-- the test of a type string
pub type_text_test_is_right : (bytes : List ℕ) → Decides (is_type_text bytes) (IsTypeText bytes)
unfolding is_type_text
type_text_test_is_right bytes = (
  λ test.
      elim (or_cases _ _ test) [
        | inl left ↦
            elim (or_cases _ _ left) [
              | inl letter ↦ inl ((letter_test_is_right bytes).0 letter)
              | inr function ↦ inr (inl ((function_test_is_right bytes).0 function))
            ]
        | inr array ↦ inr (inr ((array_test_is_right bytes).0 array))
      ],
  λ is.
      elim is [
        | inl letter ↦ or_left _ _ (or_left _ _ ((letter_test_is_right bytes).1 letter))
        | inr other ↦
            elim other [
              | inl function ↦ or_left _ _ (or_right _ _ ((function_test_is_right bytes).1 function))
              | inr array ↦ or_right _ _ ((array_test_is_right bytes).1 array)
            ]
      ],
)

-- a type string has few bytes
pub type_text_is_short : (bytes : List ℕ) → IsTypeText bytes → (1 ≤ length bytes) × (length bytes ≤ 9)
type_text_is_short bytes (inl letter) = let e = ap (λ (bs : List ℕ). length bs) letter.spelled in (omega arith, omega arith)
type_text_is_short bytes (inr (inl function)) =
    let few = function.few in
    let e = ap (λ (bs : List ℕ). length bs) function.spelled in
    let len = length-append function.params (codes ")") in (omega arith, omega arith)
type_text_is_short bytes (inr (inr array)) =
    let within = array.sized.within in
    let few : length array.digits ≤ 5 = rw (array.sized.spelled) (length-decimal-le 5 array.sized.size (omega arith) (omega arith) (omega arith)) in
    let e = ap (λ (bs : List ℕ). length bs) array.spelled in
    let len = length-append array.digits (codes "]") in (omega arith, omega arith)
