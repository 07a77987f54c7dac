-- The rows of the report: what became of each function of one unit's program.
use Rattle.std.specs.Prelude.{◌≡◌, ℕ, zero, suc, ◌*◌, ◌&&◌, false, nat_eq, List, length, codes, Option, Some, None, slice_get, option_map}
use Rattle.std.specs.Option.{is_some, option_map_or}
use Rattle.pw_tree.specs.Units.{TypedUnit}
use Rattle.pw_tree.specs.WellTypedUnits.{IsWellTyped}
use Rattle.pw_tree.specs.Names.{Project}
use Rattle.pw_module.specs.declared.kept_row.KeptRow.{KeptRow}
use Rattle.pw_module.specs.declared.kept_row.KeptBy.{KeptBy}
use Rattle.pw_module.specs.declared.kept_row.By.{By}
use Rattle.pw_module.specs.declared.kept_row.By.TheVariants.{Entry, Pointer, From}
use Rattle.pw_code.specs.Items.{size}
use Rattle.pw_code.specs.FunctionCode.{entry_code, function_words}
use Rattle.pw_agree.specs.Kept.{IsKept, IsLevel, IsParent, Keep, FindsKept}
use Rattle.pw_image.specs.OneUnit.{project_of}
use Rattle.pw_image.specs.Nodes.{node_of}

-- The name of the entry.
abbrev pub entry_name : List ℕ
entry_name = codes "_start"

-- The program of one unit goes by this name.
abbrev pub program_name : List ℕ
program_name = codes "app"

-- What leads to a kept function of a level: it is the entry; a variable points to it; or the function of a row of the level before
-- names it, the first that does.
abbrev pub IsLedTo : Project → (n level : ℕ) → By → Type 0
IsLedTo project n level Entry = n ≡ 0
IsLedTo project n level Pointer = (i : ℕ) × (n ≡ suc i) × (level ≡ 0)
IsLedTo project n level (From p) = (k : ℕ) × (level ≡ suc k) × IsParent project (node_of n) k (node_of p)

-- Why a function is kept, if it is.
abbrev pub IsKeptFor : Project → ℕ → Option KeptBy → Type 0
IsKeptFor project n (Some why) = IsLevel project (node_of n) why.level × IsLedTo project n why.level why.by
IsKeptFor project n None = IsKept project (node_of n) → ⊥

-- The file that a function is defined in; the entry is in none.
abbrev pub file_of_row : (file : List ℕ) → ℕ → Option (List ℕ)
file_of_row file zero = None
file_of_row file (suc i) = Some file

-- The name of a function.
abbrev pub name_of_row : TypedUnit → ℕ → Option (List ℕ)
name_of_row unit zero = Some entry_name
name_of_row unit (suc i) = option_map (λ f. f.name) (slice_get unit.functions i)

-- The bytes of a function.
abbrev pub bytes_of_row : TypedUnit → ℕ → Option ℕ
bytes_of_row unit zero = Some (4 * size entry_code)
bytes_of_row unit (suc i) = option_map (λ f. 4 * function_words f) (slice_get unit.functions i)

-- A row says of the function of its number what it is and why it is kept.
pub record IsRow (file : List ℕ) (unit : TypedUnit) (n : ℕ) (row : KeptRow) : Type 0 where
  pub «module» : row.module ≡ program_name
  pub file_is : row.unit ≡ file_of_row file n
  pub name : name_of_row unit n ≡ Some row.name
  pub bytes : bytes_of_row unit n ≡ Some row.bytes
  pub kept : IsKeptFor (project_of unit) n row.kept

-- The rows of a unit's program: the entry's, and then those of its functions in order of the text.
pub record AreRows (file : List ℕ) (unit : TypedUnit) (rows : List KeptRow) : Type 0 where
  pub all : length rows ≡ suc (length unit.functions)
  pub each : (n : ℕ) (row : KeptRow) → slice_get rows n ≡ Some row → IsRow file unit n row

-- Which definitions these rows say to be kept: of the unit's own, those whose row says why. The entry's row comes first.
abbrev pub keep_of : List KeptRow → Keep
keep_of rows d =
    nat_eq d.in_module 0 && nat_eq d.in_unit 0 && option_map_or (λ row. is_some row.kept) (slice_get rows (suc d.number)) false

-- The rows of a well-typed unit's program find what is kept of its project.
abbrev pub RowsFindKept : Type 0
RowsFindKept = (file : List ℕ) (unit : TypedUnit) (rows : List KeptRow) → IsWellTyped unit → AreRows file unit rows →
    FindsKept (project_of unit) (keep_of rows)
