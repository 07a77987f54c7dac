-- A field of a file: a number of some bytes, the lowest first, at its offset (gABI, "Data Encoding", ELFDATA2LSB).
use Rattle.std.specs.Prelude.{◌≡◌, ℕ, ◌^◌, ◌<◌, ◌≤◌, List, ◌++◌, drop, Option, Some}
use Rattle.pw_base.specs.Bytes.{AreBytes, le_bytes, le_at}

-- the bytes of a field of some bytes that has this value
unfoldable pub field : ℕ → ℕ → List ℕ
field width value = le_bytes width value

-- the value of the field that stands first, where it is all there
unfoldable pub first_field : ℕ → List ℕ → Option ℕ
first_field width bytes = le_at width bytes 0

-- the value of the field at an offset, where it is all there
abbrev pub field_at : ℕ → List ℕ → ℕ → Option ℕ
field_at width bytes off = first_field width (drop off bytes)

-- the field at an offset is the number that the bytes there say
abbrev pub FieldIsTheNumberThere : Type 0
FieldIsTheNumberThere = (width : ℕ) (bytes : List ℕ) (off : ℕ) → 1 ≤ width → field_at width bytes off ≡ le_at width bytes off

-- what is written as a field is read there, whatever follows
abbrev pub WrittenFieldIsRead : Type 0
WrittenFieldIsRead = (width value : ℕ) (rest : List ℕ) → value < 256 ^ width → first_field width (field width value ++ rest) ≡ Some value

-- what is read as a field is written so
abbrev pub ReadFieldIsWritten : Type 0
ReadFieldIsWritten = (width : ℕ) (bytes : List ℕ) (value : ℕ) → AreBytes bytes → first_field width bytes ≡ Some value
    → (bytes ≡ field width value ++ drop width bytes) × (value < 256 ^ width)
