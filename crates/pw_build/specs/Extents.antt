-- Where the functions of a text stand, by the bytes of their rows: the rows' functions stand one after another from the text's start.
use Rattle.std.specs.Prelude.{◌≡◌, ℕ, ◌+◌, ◌<◌, ◌≤◌, ◌⊎◌, List, length, take, sum_by, Some, slice_get}
use Rattle.pw_module.specs.declared.kept_row.KeptRow.{KeptRow}
use Rattle.pw_agree.specs.Placing.{text_of}

-- The bytes of the functions of some rows.
abbrev pub bytes_of_rows : List KeptRow → ℕ
bytes_of_rows rows = sum_by (λ row. row.bytes) rows

-- Where the function of a row of the first module starts.
abbrev pub start_of_row : List KeptRow → ℕ → ℕ
start_of_row rows n = text_of 0 + bytes_of_rows (take n rows)

-- An address lies in the function of a row.
pub record HoldsAddress (rows : List KeptRow) (at n : ℕ) : Type 0 where
  pub row : KeptRow
  pub there : slice_get rows n ≡ Some row
  pub from : start_of_row rows n ≤ at
  pub to : at < start_of_row rows n + row.bytes

-- The number of the row in whose function an address lies; where it lies in none, the number of rows.
abbrev pub FindsRow : List KeptRow → (at n : ℕ) → Type 0
FindsRow rows at n = HoldsAddress rows at n ⊎ ((n ≡ length rows) × ((m : ℕ) → HoldsAddress rows at m → ⊥))
