-- Whether bytes are a name, and whether they are a type string, as tests, for definitions that go on by the answer.
use Rattle.std.specs.Prelude.{◌≡◌, ℕ, ◌-◌, Bool, true, false, ◌&&◌, ◌||◌, nat_le, List, [], ◌∷◌, ◌++◌, length, take, drop, get_or, Option, Some, None, Result, Ok, Err, codes, decimal}
use Rattle.std.specs.Bool.{Decides}
use Rattle.std.specs.List.{list_all}
use Rattle.std.specs.Str.{bytes_eq}
use Rattle.std.specs.Str.Parse.{digits_value}
use Rattle.pw_base.specs.Limits.{name_bytes, parameters, array_elements}
use Rattle.pw_base.specs.Name.{IsName, is_name_byte}
use Rattle.pw_base.specs.TypeText.{IsTypeText, is_type_letter, is_value_letter}
use Rattle.pw_base.specs.declared.no_memory.NoMemory.{NoMemory}

-- 1 to 63 bytes, each of which names may have
unfoldable pub is_name : List ℕ → Bool
is_name bytes = nat_le 1 (length bytes) && nat_le (length bytes) name_bytes && list_all is_name_byte bytes

-- the decimal digits of a number from 1 to 65536
unfoldable pub is_size : List ℕ → Bool
is_size digits = nat_le 1 (digits_value 10 digits) && nat_le (digits_value 10 digits) array_elements && bytes_eq digits (decimal (digits_value 10 digits))

-- the first byte of a text
abbrev pub first : List ℕ → ℕ
first bytes = get_or bytes 0 0

-- what stands between the first two bytes and the last
abbrev pub between : List ℕ → List ℕ
between bytes = take (length bytes - 3) (drop 2 bytes)

-- one letter
unfoldable pub is_letter_text : List ℕ → Bool
is_letter_text bytes = bytes_eq bytes (first bytes ∷ []) && is_type_letter (first bytes)

-- a letter, and in brackets those of at most 6 parameters
unfoldable pub is_function_text : List ℕ → Bool
is_function_text bytes =
    bytes_eq bytes (first bytes ∷ codes "(" ++ between bytes ++ codes ")") && is_type_letter (first bytes)
    && (list_all is_value_letter (between bytes) && nat_le (length (between bytes)) parameters)

-- a letter, and in brackets a size
unfoldable pub is_array_text : List ℕ → Bool
is_array_text bytes =
    bytes_eq bytes (first bytes ∷ codes "[" ++ between bytes ++ codes "]") && is_value_letter (first bytes) && is_size (between bytes)

-- a type string
unfoldable pub is_type_text : List ℕ → Bool
is_type_text bytes = is_letter_text bytes || is_function_text bytes || is_array_text bytes

-- bytes that are read where a test holds of them, and not where it does not; out of memory says nothing
abbrev pub ReadsWhere : (List ℕ → Bool) → List ℕ → Result (Option (List ℕ)) NoMemory → Type 0
ReadsWhere test bytes (Ok (Some read)) = (read ≡ bytes) × (test bytes ≡ true)
ReadsWhere test bytes (Ok None) = test bytes ≡ false
ReadsWhere test bytes (Err _) = Unit {0}

-- the test of a name holds exactly where the bytes are one
abbrev pub NameTestIsRight : Type 0
NameTestIsRight = (bytes : List ℕ) → Decides (is_name bytes) (IsName bytes)

-- and so does the test of a type string
abbrev pub TypeTextTestIsRight : Type 0
TypeTextTestIsRight = (bytes : List ℕ) → Decides (is_type_text bytes) (IsTypeText bytes)
