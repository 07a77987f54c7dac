-- A graph of numbers that shows what depends on what in a project of one unit.
use Rattle.std.specs.Prelude.{◌≡◌, ◌↔◌, ℕ, zero, suc, List, Some, Contains, slice_get}
use Rattle.pw_base.specs.declared.kinds.Kind.TheVariants.{Program}
use Rattle.pw_tree.specs.Units.{TypedUnit}
use Rattle.pw_tree.specs.WellTypedUnits.{IsWellTyped}
use Rattle.pw_tree.specs.Names.{Project}
use Rattle.pw_tree.specs.Depends.{Node, entry, defined}
use Rattle.pw_close.specs.declared.graph.Graph.{Graph}
use Rattle.pw_close.specs.Graphs as graphs
use Rattle.pw_close.specs.Closure as closure
use Rattle.pw_agree.specs.Kept as kept
use Rattle.pw_place.specs.Tables.{function_records, table}
use Rattle.pw_image.specs.OneUnit.{project_of, objects_of, own_definition}
use Rattle.pw_image.specs.Records.{edges_of, roots_of}
use Rattle.pw_image.specs.Graphs.{IsGraphOf}

-- The function of a number: the entry, then the unit's functions in order.
abbrev pub node_of : ℕ → Node
node_of zero = entry
node_of (suc i) = defined (own_definition i)

-- The graph has the roots of the project and what its functions lead to, and no other.
pub record ShowsProject (g : Graph) (project : Project) : Type 0 where
  pub roots : (n : ℕ) → graphs.IsRoot g n → kept.IsRoot project (node_of n)
  pub all_roots : (m : Node) → kept.IsRoot project m → (n : ℕ) × (node_of n ≡ m) × graphs.IsRoot g n
  pub edges : (m n : ℕ) → graphs.HasEdge g m n → kept.Leads project (node_of m) (node_of n)
  pub all_edges : (m : ℕ) (t : Node) → kept.Leads project (node_of m) t → (n : ℕ) × (node_of n ≡ t) × graphs.HasEdge g m n

-- In such a graph the same functions are kept,
abbrev pub KeptAlike : Type 0
KeptAlike = (g : Graph) (project : Project) → ShowsProject g project → (n : ℕ) → graphs.IsKept g n ↔ kept.IsKept project (node_of n)

-- they have the same levels,
abbrev pub LevelsAlike : Type 0
LevelsAlike = (g : Graph) (project : Project) → ShowsProject g project → (n k : ℕ) →
    closure.IsLevel g n k ↔ kept.IsLevel project (node_of n) k

-- and, above level 0, the same parents.
abbrev pub ParentsAlike : Type 0
ParentsAlike = (g : Graph) (project : Project) → ShowsProject g project → (n k p : ℕ) → closure.IsLevel g n (suc k) →
    closure.IsParent g n k p ↔ kept.IsParent project (node_of n) k (node_of p)

-- The edges between the records of a well-typed unit's object are what its functions lead to.
abbrev pub EdgesAreLeads : Type 0
EdgesAreLeads = (name : List ℕ) (unit : TypedUnit) (m : ℕ) (row : List ℕ) → IsWellTyped unit →
    slice_get (edges_of (function_records Program (objects_of name unit))) m ≡ Some row →
    (n : ℕ) → Contains row n ↔ kept.Leads (project_of unit) (node_of m) (node_of n)

-- The roots among the records are those of the project.
abbrev pub RootsAreRoots : Type 0
RootsAreRoots = (name : List ℕ) (unit : TypedUnit) → IsWellTyped unit → (n : ℕ) →
    Contains (roots_of (function_records Program (objects_of name unit)) (table Program (objects_of name unit)).roots) n
    ↔ kept.IsRoot (project_of unit) (node_of n)

-- So the graph of the table of a well-typed unit's object shows the unit's project.
abbrev pub TablesShowProjects : Type 0
TablesShowProjects = (name : List ℕ) (unit : TypedUnit) (g : Graph) → IsWellTyped unit →
    IsGraphOf (table Program (objects_of name unit)) g → ShowsProject g (project_of unit)
