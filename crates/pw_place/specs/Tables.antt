-- The dependency table of a module.
use Rattle.std.specs.Prelude.{ℕ, List, [], ◌∷◌, ◌++◌, map, flat_map, codes, Option, Some, None}
use Rattle.std.specs.List.{enumerate_from}
use Rattle.pw_base.specs.declared.kinds.Kind.{Kind}
use Rattle.pw_base.specs.declared.kinds.Kind.TheVariants.{Program, Library}
use Rattle.pw_code.specs.declared.object.FunCode.{FunCode}
use Rattle.pw_code.specs.declared.object.Object.{Object}
use Rattle.pw_module.specs.declared.symbol.Symbol.{Symbol}
use Rattle.pw_module.specs.declared.dep_table.DepTable.{DepTable}
use Rattle.pw_module.specs.declared.dep_table.FunRec.{FunRec}
use Rattle.pw_module.specs.declared.dep_table.RootRec.{RootRec}
use Rattle.pw_module.specs.declared.dep_table.TypeRec.{TypeRec}
use Rattle.pw_place.specs.Sizes.{code_bytes, function_bytes, entry_items}
use Rattle.pw_place.specs.Places.{function_start}
use Rattle.pw_place.specs.Symbols.{external_number, symbol_number, symbols, ref_of_function}
use Rattle.pw_place.specs.Contents.{Pointer, pointers}

-- The version of the table.
abbrev pub table_version : ℕ
table_version = 1

-- The entry is the first symbol after the null one, belongs to no unit, and depends on `main`.
abbrev pub entry_records : Kind → List Object → List FunRec
entry_records Program objects = record {
  sym = 1;
  unit = None;
  start = 0;
  size = code_bytes (entry_items Program);
  deps = external_number Program objects (codes "main") ∷ [];
} ∷ []
entry_records Library objects = []

-- The record of a function of a unit, which comes with its number.
abbrev pub function_record : Kind → List Object → (unit : ℕ) → ℕ × FunCode → FunRec
function_record kind objects unit (i, f) = record {
  sym = symbol_number kind objects unit (ref_of_function i f);
  unit = Some unit;
  start = function_start kind objects unit i;
  size = function_bytes f;
  deps = map (symbol_number kind objects unit) f.deps;
}

-- The records of the functions of a unit.
abbrev pub unit_records : Kind → List Object → ℕ × Object → List FunRec
unit_records kind objects (unit, o) = map (function_record kind objects unit) (enumerate_from 0 o.funs)

-- The records of functions, in order of the text.
abbrev pub function_records : Kind → List Object → List FunRec
function_records kind objects =
    entry_records kind objects ++ flat_map (unit_records kind objects) (enumerate_from 0 objects)

-- A pointer is a root: the variable that it stands in, and the function that it means.
abbrev pub root_record : Kind → List Object → Pointer → RootRec
root_record kind objects p = record {
  var = symbol_number kind objects p.unit p.variable;
  fun = symbol_number kind objects p.unit p.function;
}

-- The text of a symbol, which comes with its number; the null symbol has none.
abbrev pub type_records_of : ℕ × Option Symbol → List TypeRec
type_records_of (n, None) = []
type_records_of (n, Some s) = record { sym = n; text = s.text } ∷ []

-- The dependency table of a module.
abbrev pub table : Kind → List Object → DepTable
table kind objects = record {
  version = table_version;
  units = map (λ o. o.unit) objects;
  funs = function_records kind objects;
  roots = map (root_record kind objects) (pointers kind objects);
  types = flat_map type_records_of (enumerate_from 0 (symbols kind objects));
}
