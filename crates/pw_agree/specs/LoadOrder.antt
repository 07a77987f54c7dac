-- The modules of a project, and the project that is loaded.
use Rattle.std.specs.Prelude.{ℕ, List, [], ◌∷◌, map, flat_map, slice_get}
use Rattle.std.specs.Option.{option_map_or}
use Rattle.pw_module.specs.LoadOrder.{Needing, load_order}
use Rattle.pw_tree.specs.Units.{TypedUnit}
use Rattle.pw_tree.specs.Names.{Project}

-- A module: its name (gABI, DT_SONAME), the names of those that it needs (DT_NEEDED), and its units, in order.
pub record ProjectModule : Type 0 where
  pub name : List ℕ
  pub needs : List (List ℕ)
  pub units : List TypedUnit

-- What the load order goes by.
abbrev pub needing_of : ProjectModule → Needing
needing_of m = record { name = m.name; needs = m.needs }

-- The order in which a project's modules are loaded; the first of them is the program.
abbrev pub project_order : List ProjectModule → List ℕ
project_order modules = load_order (map needing_of modules)

-- The units of the loaded modules, in load order.
abbrev pub loaded_project : List ProjectModule → Project
loaded_project modules =
    flat_map (λ m. option_map_or (λ it. it.units ∷ []) (slice_get modules m) []) (project_order modules)
