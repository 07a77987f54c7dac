-- The levels and parents of a graph's kept functions.
use Rattle.std.specs.Prelude.{◌≡◌, ℕ, suc, ◌≤◌, Option, Some, None, length, slice_index_or}
use Rattle.pw_close.specs.Graphs.{HasEdge, HasWay, IsKept}
use Rattle.pw_close.specs.declared.graph.Graph.{Graph}
use Rattle.pw_close.specs.declared.graph.Levels.{Levels}

-- The level of a kept function is the length of a shortest way from a root to it.
pub record IsLevel (g : Graph) (n k : ℕ) : Type 0 where
  pub way : HasWay g k n
  pub least : (j : ℕ) → HasWay g j n → k ≤ j

-- The parent of a function of level k + 1 is the first function of level k that depends on it.
pub record IsParent (g : Graph) (n k p : ℕ) : Type 0 where
  pub level : IsLevel g p k
  pub edge : HasEdge g p n
  pub first : (q : ℕ) → IsLevel g q k → HasEdge g q n → p ≤ q

-- The level of a function, where it has one.
abbrev pub level_of : Levels → ℕ → Option ℕ
level_of levels n = slice_index_or levels.level.items n None

-- The parent of a function, where it has one.
abbrev pub parent_of : Levels → ℕ → Option ℕ
parent_of levels n = slice_index_or levels.parent.items n None

-- These are the levels and parents of the graph's functions.
pub record AreLevels (g : Graph) (levels : Levels) : Type 0 where
  pub levels_all : length levels.level.items ≡ g.funs
  pub parents_all : length levels.parent.items ≡ g.funs
  -- only kept functions have a level, and it is theirs
  pub level : (n k : ℕ) → level_of levels n ≡ Some k → IsLevel g n k
  -- what has none is not kept
  pub rest : (n : ℕ) → level_of levels n ≡ None → IsKept g n → ⊥
  -- roots and functions that are not kept have no parent, and every other function has its own
  pub parent : (n k : ℕ) → level_of levels n ≡ Some (suc k) → (p : ℕ) × (parent_of levels n ≡ Some p) × IsParent g n k p
  pub root : (n : ℕ) → level_of levels n ≡ Some 0 → parent_of levels n ≡ None
  pub none : (n : ℕ) → level_of levels n ≡ None → parent_of levels n ≡ None
