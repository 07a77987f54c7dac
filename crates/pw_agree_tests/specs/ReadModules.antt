-- Modules as they are read from files: in which order they are loaded, what their symbols mean, and what is kept of them.
use Rattle.std.specs.Prelude.{◌≡◌, ℕ, Bool, true, false, List, [], ◌∷◌, map, Option, Some, None, codes}
use Rattle.pw_module.specs.declared.module.Module.{Module}
use Rattle.pw_module.specs.declared.symbol.Symbol.{Symbol}
use Rattle.pw_module.specs.declared.symbol.SymKind.{SymKind}
use Rattle.pw_module.specs.declared.symbol.SymKind.TheVariants.{Fun, Undefined}
use Rattle.pw_module.specs.declared.dep_table.FunRec.{FunRec}
use Rattle.pw_module.specs.declared.dep_table.RootRec.{RootRec}
use Rattle.pw_module.specs.LoadOrder.{order_of}
use Rattle.pw_module.specs.Resolution.{bound_symbol, IsUnboundSymbol, DiffersFromBound}
use Rattle.pw_module.specs.Reach.{FunctionNumber, IsKeptRecord, IsRootFunction, RecordLeads}

-- ---- modules, by what the search and the reach go by

-- a module with these symbols, the first of which has number 1, and these records
abbrev pub module_of : (name : List ℕ) → (needs : List (List ℕ)) → List Symbol → List FunRec → List RootRec → Option ℕ → Module
module_of name needs symbols funs roots entry = record {
  soname = name;
  needs = needs;
  text = [];
  bytes = [];
  zeros = 0;
  meta = 0;
  symbols = None ∷ map Some symbols;
  relocs = [];
  deps = record { version = 1; units = codes "u.c" ∷ []; funs = funs; roots = roots; types = [] };
  entry = entry;
}

-- a symbol with its name, linkage, kind and type string
abbrev pub symbol_named : (name : List ℕ) → Bool → SymKind → (text : List ℕ) → Symbol
symbol_named name global kind text = record { name = name; global = global; kind = kind; text = text }

-- the record of a function of the one unit
abbrev pub function_record : (sym start size : ℕ) → (deps : List ℕ) → FunRec
function_record sym start size deps = record { sym = sym; unit = Some 0; start = start; size = size; deps = deps }

-- the record of a program's entry, which depends on the symbol of `main`
abbrev pub entry_record : (main : ℕ) → FunRec
entry_record main = record { sym = 1; unit = None; start = 0; size = 24; deps = main ∷ [] }

-- the symbol of a program's entry
abbrev pub entry_symbol : Symbol
entry_symbol = symbol_named (codes "_start") false (Fun 0 24) (codes "v()")

-- an external symbol of a function `long f(void)` that stands here
abbrev pub defined_at : (name : List ℕ) → (start size : ℕ) → Symbol
defined_at name start size = symbol_named name true (Fun start size) (codes "l()")

-- the symbol of such a function that another module defines
abbrev pub undefined : (name : List ℕ) → Symbol
undefined name = symbol_named name true Undefined (codes "l()")

-- a function by the place of its module in the load order and the number of its record
abbrev pub number : (place record_number : ℕ) → FunctionNumber
number place record_number = record { place = place; record_number = record_number }

-- ---- four modules: the program needs a and b, and both need c; b and c define f

-- in the order app, c, b, a, which is not the order in which they are loaded
abbrev pub four_modules : List Module
four_modules =
    module_of (codes "app") (codes "a" ∷ codes "b" ∷ [])
    (entry_symbol ∷ defined_at (codes "main") 24 68 ∷ undefined (codes "f") ∷ [])
    (entry_record 2 ∷ function_record 2 24 68 (3 ∷ []) ∷ []) [] (Some 0)
    ∷ module_of (codes "c") [] (defined_at (codes "f") 0 60 ∷ []) (function_record 1 0 60 [] ∷ []) [] None
    ∷ module_of (codes "b") (codes "c" ∷ []) (defined_at (codes "f") 0 60 ∷ []) (function_record 1 0 60 [] ∷ []) [] None
    ∷ module_of (codes "a") (codes "c" ∷ []) (defined_at (codes "g") 0 60 ∷ []) (function_record 1 0 60 [] ∷ []) [] None ∷ []

-- They are searched breadth first, so b's f is the one that is kept.
pub record BreadthFirst : Type 0 where
  pub order : order_of four_modules ≡ 0 ∷ 3 ∷ 2 ∷ 1 ∷ []
  pub meant : bound_symbol four_modules 0 3 ≡ Some (record { «module» = 2; sym = 1 })
  pub in_c : bound_symbol four_modules 1 1 ≡ Some (record { «module» = 2; sym = 1 })
  pub is_root : IsRootFunction four_modules (number 0 0)
  pub main_leads : RecordLeads four_modules (number 0 1) (number 2 0)
  pub kept : IsKeptRecord four_modules (number 2 0)

-- ---- a library that names its own f, which the program defines too; a pointer of it keeps its static function

-- the program, and the library with the records of f, g and the static hook
abbrev pub interposed : List Module
interposed =
    module_of (codes "app") (codes "liba" ∷ [])
    (entry_symbol ∷ defined_at (codes "f") 24 60 ∷ defined_at (codes "main") 84 68 ∷ undefined (codes "g") ∷ [])
    (entry_record 3 ∷ function_record 2 24 60 [] ∷ function_record 3 84 68 (4 ∷ []) ∷ []) [] (Some 0)
    ∷ module_of (codes "liba") []
    (symbol_named (codes "hook") false (Fun 128 60) (codes "l()") ∷ defined_at (codes "f") 0 60 ∷ defined_at (codes "g") 60 68 ∷ [])
    (function_record 2 0 60 [] ∷ function_record 3 60 68 (2 ∷ []) ∷ function_record 1 128 60 [] ∷ [])
    (record { var = 1; fun = 1 } ∷ []) None ∷ []

-- In the library too, f is the program's.
pub record ProgramIsFirst : Type 0 where
  pub order : order_of interposed ≡ 0 ∷ 1 ∷ []
  pub meant : bound_symbol interposed 1 2 ≡ Some (record { «module» = 0; sym = 2 })
  pub static : bound_symbol interposed 1 1 ≡ Some (record { «module» = 1; sym = 1 })
  pub g_leads : RecordLeads interposed (number 1 1) (number 0 1)
  pub pointed : IsRootFunction interposed (number 1 2)

-- ---- faults: without a definition, and with another type

-- f has no definition, and g is declared `l()` and defined `v()`
abbrev pub faulty : List Module
faulty =
    module_of (codes "app") (codes "liba" ∷ [])
    (entry_symbol ∷ defined_at (codes "main") 24 68 ∷ undefined (codes "f") ∷ undefined (codes "g") ∷ [])
    (entry_record 2 ∷ function_record 2 24 68 (3 ∷ 4 ∷ []) ∷ []) [] (Some 0)
    ∷ module_of (codes "liba") [] (symbol_named (codes "g") true (Fun 0 60) (codes "v()") ∷ []) (function_record 1 0 60 [] ∷ []) [] None
    ∷ []

-- Each of the two symbols has its fault.
pub record AreFaulty : Type 0 where
  pub unbound : IsUnboundSymbol faulty 0 3
  pub differs : DiffersFromBound faulty 0 4

-- What is expected of these modules.
abbrev pub ReadModulesAreSearched : Type 0
ReadModulesAreSearched = BreadthFirst × ProgramIsFirst × AreFaulty
