-- The rows that placed functions have, by the records of the dependency table and the levels of its graph.
use Rattle.std.specs.Prelude.{◌≡◌, ℕ, zero, suc, List, [], map, nat_eq, if◌then◌else◌, Option, Some, slice_get, option_map, option_and_then}
use Rattle.std.specs.List.{enumerate_from}
use Rattle.std.specs.Option.{option_map_or}
use Rattle.pw_close.specs.declared.graph.Levels.{Levels}
use Rattle.pw_close.specs.Closure.{level_of, parent_of}
use Rattle.pw_module.specs.declared.dep_table.FunRec.{FunRec}
use Rattle.pw_module.specs.declared.symbol.Symbol.{Symbol}
use Rattle.pw_module.specs.declared.kept_row.KeptRow.{KeptRow}
use Rattle.pw_module.specs.declared.kept_row.KeptBy.{KeptBy}
use Rattle.pw_module.specs.declared.kept_row.By.{By}
use Rattle.pw_module.specs.declared.kept_row.By.TheVariants.{Entry, Pointer, From}
use Rattle.pw_place.specs.declared.placed.Placed.{Placed}

-- The name of the symbol of this number; none has the empty one.
abbrev pub symbol_name : List (Option Symbol) → ℕ → List ℕ
symbol_name symbols n = option_map_or (λ s. s.name) (option_and_then (λ s. s) (slice_get symbols n)) []

-- What leads to a function of a level: the function of record 0 is the entry.
abbrev pub led_by : (n level parent : ℕ) → By
led_by n zero parent = if nat_eq n 0 then Entry else Pointer
led_by n (suc level) parent = From parent

-- Why the function of a record is kept, if it has a level.
abbrev pub kept_by : Levels → ℕ → Option KeptBy
kept_by levels n = option_map
    (λ level. record { level = level; by = led_by n level (option_map_or (λ p. p) (parent_of levels n) 0) })
    (level_of levels n)

-- The row of a record, which comes with its number.
abbrev pub row_of : (module_name : List ℕ) → Placed → Levels → ℕ × FunRec → KeptRow
row_of module_name placed levels (n, r) = record {
  «module» = module_name;
  unit = option_and_then (λ u. slice_get placed.deps.units u) r.unit;
  name = symbol_name placed.symbols r.sym;
  bytes = r.size;
  kept = kept_by levels n;
}

-- The rows of all records.
abbrev pub rows_of : (module_name : List ℕ) → Placed → Levels → List KeptRow
rows_of module_name placed levels = map (row_of module_name placed levels) (enumerate_from 0 placed.deps.funs)

-- The symbol of a record is there.
abbrev pub HasSymbol : List (Option Symbol) → FunRec → Type 0
HasSymbol symbols r = (s : Symbol) × (slice_get symbols r.sym ≡ Some (Some s))
