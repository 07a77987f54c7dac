-- A dependency table read from its first byte to its last, or its first fault.
use Rattle.std.specs.Prelude.{◌+◌, ◌-◌, ◌%◌, ℕ, zero, suc, Bool, false, not, nat_eq, nat_lt, nat_le, if◌then◌else◌, List, [], ◌∷◌, length, take, drop, Option, Some, None, Result, Ok, Err}
use Rattle.pw_base.specs.Field.{first_field}
use Rattle.pw_base.specs.Tests.{is_name, is_type_text}
use Rattle.pw_module.specs.declared.dep_error.DepError.{DepError}
use Rattle.pw_module.specs.declared.dep_error.DepError.TheVariants.{Short, Version, BadName, BadIndex, BadRange, Overlap, BadType, Trailing}
use Rattle.pw_module.specs.declared.dep_table.DepTable.{DepTable}
use Rattle.pw_module.specs.declared.dep_table.FunRec.{FunRec}
use Rattle.pw_module.specs.declared.dep_table.RootRec.{RootRec}
use Rattle.pw_module.specs.declared.dep_table.TypeRec.{TypeRec}
use Rattle.pw_module.specs.Spelling.{no_unit}

-- steps that read: the first fault ends them
infixl 10 ◌>>=◌
abbrev pub ◌>>=◌ : {A B : Type 0} → Result A DepError → (A → Result B DepError) → Result B DepError
(Ok x) >>= f = f x
(Err e) >>= f = Err e

-- what was read, if it has no fault
abbrev pub fine : {A : Type 0} → Option DepError → A → Result A DepError
fine None x = Ok x
fine (Some fault) x = Err fault

-- ---- numbers and strings; `total` is how many bytes the table has, so what is left says where it stands

-- where bytes that are left stand
abbrev pub offset : ℕ → List ℕ → ℕ
offset total rest = total - length rest

-- a number that is there with the bytes after it, or `Short` where the field starts
abbrev pub number_or : ℕ → List ℕ → Option ℕ → Result (ℕ × List ℕ) DepError
number_or total rest None = Err (Short (offset total rest))
number_or total rest (Some n) = Ok (n, drop 4 rest)

-- the number that stands first and the bytes after it, or `Short`
unfoldable pub number_at : ℕ → List ℕ → Result (ℕ × List ℕ) DepError
number_at total rest = number_or total rest (first_field 4 rest)

-- a string that follows its length, and the bytes after it
unfoldable pub sized_string_at : ℕ → List ℕ → Result (List ℕ × List ℕ) DepError
sized_string_at total rest = do
  count ← number_at total rest
  if nat_lt (length count.1) count.0 then Err (Short (offset total count.1)) else Ok (take count.0 count.1, drop count.0 count.1)

-- ---- several records, one after another

-- where a record starts: the bytes that are left, and a number that its former left (the end of a function, the symbol of a type)
pub record Remaining : Type 0 where
  pub former : ℕ
  pub rest : List ℕ

-- these as one value
abbrev pub remaining : ℕ → List ℕ → Remaining
remaining former rest = record { former = former; rest = rest }

-- so many records, numbered from k
unfoldable pub many : {A : Type 0} → (ℕ → Remaining → Result (A × Remaining) DepError) → ℕ → ℕ → Remaining → Result (List A × Remaining) DepError
many step k zero p = Ok ([], p)
many step k (suc count) p = do
  first ← step k p
  others ← many step (suc k) count first.1
  Ok (first.0 ∷ others.0, others.1)

-- ---- units

-- a unit, whose bytes are a name
unfoldable pub unit_record_at : ℕ → ℕ → Remaining → Result (List ℕ × Remaining) DepError
unit_record_at total k p = do
  name ← sized_string_at total p.rest
  if is_name name.0 then Ok (name.0, remaining p.former name.1) else Err (BadName k)

-- ---- numbers that are no symbol

-- is it the number of a symbol? The first is none
abbrev pub is_symbol : ℕ → ℕ → Bool
is_symbol symbols n = if nat_lt 0 n then nat_lt n symbols else false

-- the first of these numbers that is no symbol's
abbrev pub bad_in : ℕ → List ℕ → Option ℕ
bad_in symbols [] = None
bad_in symbols (n ∷ ns) = if is_symbol symbols n then bad_in symbols ns else Some n

-- a record that has a wrong number, or else another fault
abbrev pub index_or : ℕ → Option ℕ → Option DepError → Option DepError
index_or k (Some n) fault = Some (BadIndex k n)
index_or k None fault = fault

-- ---- functions

-- one of the symbols on which a function depends
unfoldable pub dependency_at : ℕ → ℕ → Remaining → Result (ℕ × Remaining) DepError
dependency_at total k p = do
  n ← number_at total p.rest
  Ok (n.0, remaining p.former n.1)

-- the unit that a field names: none where it is the number of no unit
abbrev pub unit_from_number : ℕ → Option ℕ
unit_from_number n = if nat_eq n no_unit then None else Some n

-- the fields of a function
unfoldable pub function_fields : ℕ → List ℕ → Result (FunRec × List ℕ) DepError
function_fields total rest = do
  sym ← number_at total rest
  unit ← number_at total sym.1
  start ← number_at total unit.1
  size ← number_at total start.1
  count ← number_at total size.1
  deps ← many (dependency_at total) 0 count.0 (remaining 0 count.1)
  Ok (record { sym = sym.0; unit = unit_from_number unit.0; start = start.0; size = size.0; deps = deps.0 }, deps.1.rest)

-- the number of a unit that is out of range, or else another wrong number
abbrev pub unit_or : ℕ → Option ℕ → Option ℕ → Option ℕ
unit_or units None other = other
unit_or units (Some unit) other = if nat_lt unit units then other else Some unit

-- the first wrong number of a function: its symbol, its unit, or one of those on which it depends
unfoldable pub bad_index : ℕ → ℕ → FunRec → Option ℕ
bad_index symbols units f = if is_symbol symbols f.sym then unit_or units f.unit (bad_in symbols f.deps) else Some f.sym

-- what is wrong with a function's place in the text
unfoldable pub range_fault : ℕ → ℕ → ℕ → FunRec → Option DepError
range_fault text former k f =
    if nat_lt f.start former then Some (Overlap k)
    else if nat_eq f.size 0 then Some (BadRange k)
    else if not (nat_eq (f.size % 4) 0) then Some (BadRange k)
    else if nat_lt former f.start then Some (BadRange k)
    else if nat_lt text (f.start + f.size) then Some (BadRange k)
    else None

-- what is wrong with a function: its numbers first, then its place
unfoldable pub function_fault : ℕ → ℕ → ℕ → ℕ → ℕ → FunRec → Option DepError
function_fault symbols text units former k f = index_or k (bad_index symbols units f) (range_fault text former k f)

-- a function, which leaves its end
unfoldable pub function_record_at : ℕ → ℕ → ℕ → ℕ → ℕ → Remaining → Result (FunRec × Remaining) DepError
function_record_at symbols text units total k p = do
  f ← function_fields total p.rest
  fine (function_fault symbols text units p.former k f.0) (f.0, remaining (f.0.start + f.0.size) f.1)

-- what is wrong where the last of so many functions ends before the text does
unfoldable pub end_fault : ℕ → ℕ → ℕ → Option DepError
end_fault text count last = if nat_lt last text then Some (BadRange (count - 1)) else None

-- ---- roots and types

-- a root, both of whose numbers are symbols'
unfoldable pub root_record_at : ℕ → ℕ → ℕ → Remaining → Result (RootRec × Remaining) DepError
root_record_at symbols total k p = do
  var ← number_at total p.rest
  fun ← number_at total var.1
  fine (index_or k (bad_in symbols (var.0 ∷ fun.0 ∷ [])) None) (record { var = var.0; fun = fun.0 }, remaining p.former fun.1)

-- what is wrong with a type: its symbol's number, that it does not ascend, its type string
unfoldable pub type_fault : ℕ → ℕ → ℕ → TypeRec → Option DepError
type_fault symbols former k t =
    if not (is_symbol symbols t.sym) then Some (BadIndex k t.sym)
    else if nat_le t.sym former then Some (BadIndex k t.sym)
    else if not (is_type_text t.text) then Some (BadType k)
    else None

-- a type, which leaves its symbol
unfoldable pub type_record_at : ℕ → ℕ → ℕ → Remaining → Result (TypeRec × Remaining) DepError
type_record_at symbols total k p = do
  sym ← number_at total p.rest
  text ← sized_string_at total sym.1
  fine (type_fault symbols p.former k (record { sym = sym.0; text = text.0 })) (record { sym = sym.0; text = text.0 }, remaining sym.0 text.1)

-- ---- the table

-- how many records of each kind there are
pub record RecordCounts : Type 0 where
  pub units : ℕ
  pub funs : ℕ
  pub roots : ℕ
  pub types : ℕ

-- the four counts, and the bytes after them
unfoldable pub counts_at : ℕ → List ℕ → Result (RecordCounts × List ℕ) DepError
counts_at total rest = do
  units ← number_at total rest
  funs ← number_at total units.1
  roots ← number_at total funs.1
  types ← number_at total roots.1
  Ok (record { units = units.0; funs = funs.0; roots = roots.0; types = types.0 }, types.1)

-- all functions, up to the text's end
unfoldable pub functions_at : ℕ → ℕ → ℕ → ℕ → ℕ → List ℕ → Result (List FunRec × List ℕ) DepError
functions_at symbols text units total count rest = do
  funs ← many (function_record_at symbols text units total) 0 count (remaining 0 rest)
  fine (end_fault text count funs.1.former) (funs.0, funs.1.rest)

-- what follows the version
unfoldable pub records_at : ℕ → ℕ → ℕ → List ℕ → Result (DepTable × List ℕ) DepError
records_at symbols text total rest = do
  counts ← counts_at total rest
  units ← many (unit_record_at total) 0 counts.0.units (remaining 0 counts.1)
  funs ← functions_at symbols text counts.0.units total counts.0.funs units.1.rest
  roots ← many (root_record_at symbols total) 0 counts.0.roots (remaining 0 funs.1)
  types ← many (type_record_at symbols total) 0 counts.0.types (remaining 0 roots.1.rest)
  Ok (record { version = 1; units = units.0; funs = funs.0; roots = roots.0; types = types.0 }, types.1.rest)

-- the records of a table of version 1, and the bytes after them
unfoldable pub versioned : ℕ → ℕ → ℕ → ℕ → List ℕ → Result (DepTable × List ℕ) DepError
versioned symbols text total version rest = if nat_eq version 1 then records_at symbols text total rest else Err (Version version)

-- the table whose version stands first, and the bytes after it
unfoldable pub started : ℕ → ℕ → ℕ → List ℕ → Result (DepTable × List ℕ) DepError
started symbols text total bytes = do
  version ← number_at total bytes
  versioned symbols text total version.0 version.1

-- the table of all the bytes, or the first fault
unfoldable pub table_at : ℕ → ℕ → List ℕ → Result DepTable DepError
table_at symbols text bytes = do
  t ← started symbols text (length bytes) bytes
  if nat_eq (length t.1) 0 then Ok t.0 else Err (Trailing (offset (length bytes) t.1))
