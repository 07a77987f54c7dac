-- The order in which modules are loaded (gABI, "Shared Object Dependencies").
use Rattle.std.specs.Prelude.{ℕ, zero, suc, not, if◌then◌else◌, List, [], ◌∷◌, ◌++◌, length, map, flat_map, filter, Option, Some, None, nat_eq, bytes_eq, slice_get}
use Rattle.std.specs.Option.{option_map_or}
use Rattle.pw_module.specs.declared.module.Module.{Module}

-- What the order goes by: a module's name (DT_SONAME), and the names of those that it needs (DT_NEEDED), in order.
pub record Needing : Type 0 where
  pub name : List ℕ
  pub needs : List (List ℕ)

-- The name and the needs of a module that is there as a whole.
abbrev pub needing : Module → Needing
needing m = record { name = m.soname; needs = m.needs }

-- The number of the first module of a name, counted from n on.
abbrev pub number_from : ℕ → List Needing → List ℕ → Option ℕ
number_from n [] name = None
number_from n (m ∷ ms) name = if bytes_eq m.name name then Some n else number_from (suc n) ms name

-- A need for which there is no module leads nowhere.
abbrev pub number_of : List Needing → List ℕ → List ℕ
number_of modules name = option_map_or (λ n. n ∷ []) (number_from 0 modules name) []

-- The numbers of the modules that a module needs, in order of its needs.
abbrev pub needed : List Needing → ℕ → List ℕ
needed modules m = option_map_or (λ it. flat_map (number_of modules) it.needs) (slice_get modules m) []

-- The modules at the ends of all paths of n needs from a module: paths are ordered by the position of their first need, then by
-- that of their second, and so on.
unfoldable pub path_ends : List Needing → ℕ → ℕ → List ℕ
path_ends modules zero m = m ∷ []
path_ends modules (suc n) m = flat_map (path_ends modules n) (needed modules m)

-- The ends of all paths of fewer than n needs from the program, shorter paths first.
unfoldable pub ends_of_paths : List Needing → ℕ → List ℕ
ends_of_paths modules zero = []
ends_of_paths modules (suc n) = ends_of_paths modules n ++ path_ends modules n 0

-- The first occurrence of each number of a list.
unfoldable pub each_number_once : List ℕ → List ℕ
each_number_once [] = []
each_number_once (n ∷ ns) = n ∷ filter (λ other. not (nat_eq n other)) (each_number_once ns)

-- The load order: breadth first. A module stands where its first path does, the shortest and among these the least by positions;
-- a path that is first has no module twice, so it is shorter than the number of modules.
abbrev pub load_order : List Needing → List ℕ
load_order modules = each_number_once (ends_of_paths modules (length modules))

-- The order of modules that are there as a whole; the first of them is the program.
abbrev pub order_of : List Module → List ℕ
order_of modules = load_order (map needing modules)
