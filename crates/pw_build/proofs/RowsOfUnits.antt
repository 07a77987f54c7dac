-- The rows of a unit's program: their bytes are those of the project's text, and each function stands where its row is found.
use Rattle.std.proofs.Common.{◌≡◌, ℕ, zero, suc, ◌+◌, ◌*◌, ◌/◌, ◌<◌, ◌≤◌, ◌^◌, List, [], ◌∷◌, length, take, Option, Some, None, inl, inr, refl, sym, ap, ◌∙◌, arith}
use Rattle.std.specs.Prelude.{slice_get, sum_by, option_map}
use Rattle.std.proofs.Math.Seq.{take-length}
use Rattle.std.proofs.lemmas.Nat.{mul-le}
use Rattle.std.proofs.lemmas.List.Sums.{sum_by-cons}
use Rattle.pw_base.specs.Limits.{text_bytes, given_steps}
use Rattle.pw_base.proofs.Fields.{some_is}
use Rattle.pw_tree.specs.Units.{Function, TypedUnit}
use Rattle.pw_module.specs.declared.kept_row.KeptRow.{KeptRow}
use Rattle.pw_code.specs.Items.{size}
use Rattle.pw_code.specs.FunctionCode.{function_words, entry_code}
use Rattle.pw_agree.specs.Kept.{Keep}
use Rattle.pw_agree.specs.Placing.{function_address}
use Rattle.pw_simulation.specs.Projects.{CanRun, KeepsEnough}
use Rattle.pw_simulation.specs.ImageWorld.{words_of_project, world_of}
use Rattle.pw_simulation.proofs.Joined.{got_below}
use Rattle.pw_simulation.proofs.Addresses.{some_words}
use Rattle.pw_simulation.proofs.Enough.{kept_is_enough}
use Rattle.pw_image.specs.OneUnit.{project_of, own_definition}
use Rattle.pw_image.specs.Rows.{AreRows, keep_of}
use Rattle.pw_image.proofs.KeptRows.{rows_find_kept}
use Rattle.pw_build.specs.Extents.{bytes_of_rows, start_of_row, HoldsAddress, FindsRow}
use Rattle.pw_build.specs.Executed.{instruction_limit, LiesInRow, IsRowAt}

-- ---- sums

-- the bytes of a function
abbrev bytes_of_function : Function → ℕ
bytes_of_function f = 4 * function_words f

-- rows, each with the bytes of a function, have four bytes for each word of those
bytes_follow : (fs : List Function) (rows : List KeptRow) → length rows ≡ length fs →
    ((n : ℕ) (row : KeptRow) → slice_get rows n ≡ Some row → option_map bytes_of_function (slice_get fs n) ≡ Some row.bytes) →
    (k : ℕ) → bytes_of_rows (take k rows) ≡ 4 * sum_by function_words (take k fs)
bytes_follow [] [] same each zero = refl
bytes_follow [] [] same each (suc k) = refl
bytes_follow [] (row ∷ rows) same each k = cc
bytes_follow (f ∷ fs) [] same each k = cc
bytes_follow (f ∷ fs) (row ∷ rows) same each zero = refl
bytes_follow (f ∷ fs) (row ∷ rows) same each (suc k) =
    let here : 4 * function_words f ≡ row.bytes = some_is _ _ (each 0 row refl) in
    let rest = bytes_follow fs rows (omega (arith, same)) (λ n r there. each (suc n) r there) k in
    omega (arith, here, rest, sum_by-cons (λ (r : KeptRow). r.bytes) row (take k rows), sum_by-cons function_words f (take k fs))

-- the bytes of the entry's row and of those after it
pub rows_bytes : (file : List ℕ) (unit : TypedUnit) (rows : List KeptRow) → AreRows file unit rows → (k : ℕ) →
    bytes_of_rows (take (suc k) rows) ≡ 4 * size entry_code + 4 * sum_by function_words (take k unit.functions)
rows_bytes file unit [] are k = let none = are.all in cc
rows_bytes file unit (row ∷ rows) are k =
    let here : 4 * size entry_code ≡ row.bytes = some_is _ _ (are.each 0 row refl).bytes in
    let rest = bytes_follow unit.functions rows (omega (arith, are.all)) (λ n r there. (are.each (suc n) r there).bytes) k in
    omega (arith, here, rest, sum_by-cons (λ (r : KeptRow). r.bytes) row (take k rows))

-- all rows have four bytes for each word of the project
pub all_bytes : (file : List ℕ) (unit : TypedUnit) (rows : List KeptRow) → AreRows file unit rows →
    bytes_of_rows rows ≡ 4 * words_of_project (project_of unit)
all_bytes file unit rows are =
    let whole : take (suc (length unit.functions)) rows ≡ rows = ap (λ n. take n rows) (sym are.all) ∙ take-length rows in
    let functions : sum_by function_words (take (length unit.functions) unit.functions) ≡ sum_by function_words unit.functions =
    ap (sum_by function_words) (take-length unit.functions) in
    sym (ap bytes_of_rows whole) ∙ omega (arith, rows_bytes file unit rows are (length unit.functions), functions)

-- ---- what a project that can be run has room for

-- a function has a word at least
as_many_words : (fs : List Function) → length fs ≤ sum_by function_words fs
as_many_words [] = omega arith
as_many_words (f ∷ fs) = omega (arith, some_words f, as_many_words fs, sum_by-cons function_words f fs)

text_is_short : (unit : TypedUnit) → CanRun (project_of unit) → 4 * words_of_project (project_of unit) ≤ text_bytes
text_is_short unit can = omega (arith, (can.within 0 (omega arith)).text)

pub few_bytes : (file : List ℕ) (unit : TypedUnit) (rows : List KeptRow) → CanRun (project_of unit) → AreRows file unit rows →
    bytes_of_rows rows ≤ text_bytes
few_bytes file unit rows can are = omega (arith, all_bytes file unit rows are, text_is_short unit can)

pub few_rows : (file : List ℕ) (unit : TypedUnit) (rows : List KeptRow) → CanRun (project_of unit) → AreRows file unit rows →
    length rows < 2 ^ 32
few_rows file unit rows can are = omega (arith, are.all, text_is_short unit can, as_many_words unit.functions)

-- the limit of instructions, from the words that are counted,
pub limit_is : (file : List ℕ) (unit : TypedUnit) (rows : List KeptRow) (steps words : ℕ) → AreRows file unit rows →
    words ≡ bytes_of_rows rows / 4 → (steps + 1) * words ≡ instruction_limit unit steps
limit_is file unit rows steps words are is =
    let same : words ≡ words_of_project (project_of unit) = omega (arith, is, all_bytes file unit rows are) in
    ap (λ n. (steps + 1) * n) same

-- is a number of 64 bits
pub limit_fits : (file : List ℕ) (unit : TypedUnit) (rows : List KeptRow) (steps words : ℕ) → CanRun (project_of unit) →
    AreRows file unit rows → steps ≤ given_steps → words ≡ bytes_of_rows rows / 4 → (steps + 1) * words < 2 ^ 64
limit_fits file unit rows steps words can are bound is =
    let few : words ≤ 4194304 = omega (arith, is, few_bytes file unit rows can are) in
    omega (arith, mul-le (steps + 1) words 1000000001 4194304 (omega (arith, bound)) few)

-- ---- places

-- each function stands where its row starts
row_starts : (file : List ℕ) (unit : TypedUnit) (rows : List KeptRow) → AreRows file unit rows → (i : ℕ) →
    start_of_row rows (suc i) ≡ function_address (project_of unit) (own_definition i)
row_starts file unit rows are i = omega (arith, rows_bytes file unit rows are i)

-- an element of a list at each place in it
row_there : (rows : List KeptRow) (i : ℕ) → i < length rows → (row : KeptRow) × (slice_get rows i ≡ Some row)
row_there [] i below = absurd (omega arith)
row_there (row ∷ rows) zero below = (row, refl)
row_there (row ∷ rows) (suc i) below = row_there rows i (omega arith)

-- a value that is made of another
made_of : {X Y : Type 0} (f : X → Y) (o : Option X) (y : Y) → option_map f o ≡ Some y → (x : X) × (o ≡ Some x) × (f x ≡ y)
made_of f None y e = cc
made_of f (Some x) y e = (x, refl, cc)

-- an address that a row holds lies in the row's function
lies_in_row : (file : List ℕ) (unit : TypedUnit) (rows : List KeptRow) (keep : Keep) → AreRows file unit rows → (at n : ℕ) →
    HoldsAddress rows at n → LiesInRow (world_of (project_of unit) keep) n at
lies_in_row file unit rows keep are at zero holds =
    let bytes : 4 * size entry_code ≡ holds.row.bytes = some_is _ _ ((are.each 0 holds.row holds.there).bytes) in
    (omega (arith, holds.from), omega (arith, holds.to, bytes))
lies_in_row file unit rows keep are at (suc i) holds =
    let made = made_of bytes_of_function (slice_get unit.functions i) holds.row.bytes ((are.each (suc i) holds.row holds.there).bytes) in
    let start = row_starts file unit rows are i in
    record { function = made.0; there = made.1; from = omega (arith, holds.from, start); to = omega (arith, holds.to, start, made.2) }

-- and the row of a function holds what lies in it
row_holds : (file : List ℕ) (unit : TypedUnit) (rows : List KeptRow) (keep : Keep) → AreRows file unit rows → (at n : ℕ) →
    LiesInRow (world_of (project_of unit) keep) n at → HoldsAddress rows at n
row_holds file unit rows keep are at zero lies =
    let row = row_there rows 0 (omega (arith, are.all)) in
    let bytes : 4 * size entry_code ≡ row.0.bytes = some_is _ _ ((are.each 0 row.0 row.1).bytes) in
    record { row = row.0; there = row.1; from = omega (arith, lies.0); to = omega (arith, lies.1, bytes) }
row_holds file unit rows keep are at (suc i) lies =
    let row = row_there rows (suc i) (omega (arith, are.all, got_below unit.functions i lies.function lies.there)) in
    let bytes : 4 * function_words lies.function ≡ row.0.bytes =
    some_is _ _ (sym (ap (option_map bytes_of_function) lies.there) ∙ (are.each (suc i) row.0 row.1).bytes) in
    let start = row_starts file unit rows are i in
    record { row = row.0; there = row.1; from = omega (arith, lies.from, start); to = omega (arith, lies.to, start, bytes) }

-- so the row that is found is that of the address
pub row_is_at : (file : List ℕ) (unit : TypedUnit) (rows : List KeptRow) (keep : Keep) → AreRows file unit rows → (at n : ℕ) →
    FindsRow rows at n → IsRowAt unit keep at n
row_is_at file unit rows keep are at n (inl holds) = inl (lies_in_row file unit rows keep are at n holds)
row_is_at file unit rows keep are at n (inr none) =
    inr (none.0 ∙ are.all, λ m lies. none.1 m (row_holds file unit rows keep are at m lies))

-- ---- what is kept

-- what the rows keep is enough
pub rows_keep_enough : (file : List ℕ) (unit : TypedUnit) (rows : List KeptRow) → CanRun (project_of unit) → AreRows file unit rows →
    KeepsEnough (project_of unit) (keep_of rows)
rows_keep_enough file unit rows can are =
    kept_is_enough (project_of unit) (keep_of rows) can (rows_find_kept file unit rows (can.units (own_definition 0) unit refl) are)
