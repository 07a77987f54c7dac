-- The records of functions by number: which one a symbol has, and which one what a name designates.
use Rattle.std.specs.Prelude.{ℕ, suc, ◌+◌, if◌then◌else◌, List, [], ◌∷◌, Option, Some, None, nat_eq, map}
use Rattle.std.specs.List.{filter_map}
use Rattle.pw_module.specs.declared.dep_table.FunRec.{FunRec}
use Rattle.pw_module.specs.declared.dep_table.RootRec.{RootRec}
use Rattle.pw_tree.specs.Names.{Entity, function, object}

-- The number of the record of a symbol, where it has one; the first of these records has the number n.
abbrev pub record_from : (n : ℕ) → List FunRec → (symbol : ℕ) → Option ℕ
record_from n [] symbol = None
record_from n (r ∷ rs) symbol = if nat_eq r.sym symbol then Some n else record_from (n + 1) rs symbol

-- The number of the record of a symbol among all records.
abbrev pub record_of : List FunRec → (symbol : ℕ) → Option ℕ
record_of records symbol = record_from 0 records symbol

-- The number of the record of a function that a name designates: the entry's record stands before those of the unit.
abbrev pub record_meant : Option Entity → Option ℕ
record_meant None = None
record_meant (Some (function d)) = Some (suc d.number)
record_meant (Some (object d)) = None

-- For each record, the numbers of the records of the functions on which its function depends.
abbrev pub edges_of : List FunRec → List (List ℕ)
edges_of records = map (λ r. filter_map (record_of records) r.deps) records

-- The numbers of the records of the roots: the entry's, and those of the functions that variables point to.
abbrev pub roots_of : List FunRec → List RootRec → List ℕ
roots_of records roots = 0 ∷ filter_map (record_of records) (map (λ r. r.fun) roots)
