-- What reading a type string says of its test.
use Rattle.std.proofs.Common.{◌≡◌, ℕ, ◌<◌, ◌^◌, false, List, length, Option, Some, None, Result, Ok, Err, ap, ◌∙◌, arith, inl, inr}
use Rattle.std.proofs.lemmas.Bool.{false_from_ne_true}
use Rattle.pw_base.specs.declared.no_memory.NoMemory.{NoMemory}
use Rattle.pw_base.specs.TypeText.{ReadsTypeText, IsTypeTextOrEmpty}
use Rattle.pw_base.specs.Tests.{is_type_text, ReadsWhere}
use Rattle.pw_base.proofs.Tests.{type_text_test_is_right, type_text_is_short}

-- no bytes are no type string
pub empty_is_no_text : (bytes : List ℕ) → length bytes ≡ 0 → is_type_text bytes ≡ false
empty_is_no_text bytes empty = false_from_ne_true (is_type_text bytes) (λ test. let some = (type_text_is_short bytes ((type_text_test_is_right bytes).0 test)).0 in omega arith)

-- some bytes are read as a type string exactly where they are one
pub read_text : (bytes : List ℕ) (result : Result (Option (List ℕ)) NoMemory) → (length bytes ≡ 0 → ⊥) →
    ReadsTypeText bytes result → ReadsWhere is_type_text bytes result
read_text bytes (Ok (Some text)) some reads =
    (reads.0, elim reads.1 [ inl empty ↦ absurd (some (ap (λ (bs : List ℕ). length bs) empty)) | inr is ↦ (type_text_test_is_right bytes).1 is ])
read_text bytes (Ok None) some reads = false_from_ne_true (is_type_text bytes) (λ test. reads (inr ((type_text_test_is_right bytes).0 test)))
read_text bytes (Err e) some reads = tt

-- and it has a length that a field of four bytes says
pub text_fits : (bytes : List ℕ) → IsTypeTextOrEmpty bytes → length bytes < 2 ^ 32
text_fits bytes (inl empty) = let e = ap (λ (bs : List ℕ). length bs) empty in omega arith
text_fits bytes (inr is) = let short = (type_text_is_short bytes is).1 in omega arith
