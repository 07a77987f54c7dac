-- The bytes of a dependency table: its fields are little-endian numbers of four bytes, and its records stand one after another.
use Rattle.std.specs.Prelude.{ℕ, List, ◌++◌, length, Option, Some, None}
use Rattle.std.specs.List.{flat_map}
use Rattle.pw_base.specs.Field.{field}
use Rattle.pw_module.specs.declared.dep_table.DepTable.{DepTable}
use Rattle.pw_module.specs.declared.dep_table.FunRec.{FunRec}
use Rattle.pw_module.specs.declared.dep_table.RootRec.{RootRec}
use Rattle.pw_module.specs.declared.dep_table.TypeRec.{TypeRec}

-- a number
abbrev pub number_bytes : ℕ → List ℕ
number_bytes n = field 4 n

-- a string: how many bytes it has, and these
abbrev pub sized_string_bytes : List ℕ → List ℕ
sized_string_bytes bytes = number_bytes (length bytes) ++ bytes

-- the number that stands for no unit, as the entry has it
abbrev pub no_unit : ℕ
no_unit = 0xffffffff

-- a unit's number
abbrev pub unit_number : Option ℕ → ℕ
unit_number None = no_unit
unit_number (Some unit) = unit

-- a function: its symbol, unit, start and size, how many symbols it depends on, and these
unfoldable pub function_bytes : FunRec → List ℕ
function_bytes f =
    number_bytes f.sym ++ (number_bytes (unit_number f.unit) ++ (number_bytes f.start ++ (number_bytes f.size
    ++ (number_bytes (length f.deps) ++ flat_map number_bytes f.deps))))

-- a root: the variable's symbol and the function's
unfoldable pub root_bytes : RootRec → List ℕ
root_bytes r = number_bytes r.var ++ number_bytes r.fun

-- a type: the symbol, and its type string
unfoldable pub type_bytes : TypeRec → List ℕ
type_bytes t = number_bytes t.sym ++ sized_string_bytes t.text

-- the version, and how many units, functions, roots and types there are
unfoldable pub head_bytes : DepTable → List ℕ
head_bytes t =
    number_bytes t.version ++ (number_bytes (length t.units) ++ (number_bytes (length t.funs)
    ++ (number_bytes (length t.roots) ++ number_bytes (length t.types))))

-- a table
unfoldable pub table_bytes : DepTable → List ℕ
table_bytes t =
    head_bytes t ++ (flat_map sized_string_bytes t.units ++ (flat_map function_bytes t.funs
    ++ (flat_map root_bytes t.roots ++ flat_map type_bytes t.types)))
