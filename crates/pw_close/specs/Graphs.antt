-- Graphs of functions: what leads to what, and what the roots lead to.
use Rattle.std.specs.Global.{Global}
use Rattle.std.specs.Prelude.{◌≡◌, ℕ, zero, suc, ◌<◌, List, Vec, length, slice_get, Some}
use Rattle.std.specs.List.{All, Contains}
use Rattle.pw_close.specs.declared.graph.Graph.{Graph}

-- One function depends on another.
abbrev pub HasEdge : Graph → ℕ → ℕ → Type 0
HasEdge g m n = (row : Vec ℕ Global) × (slice_get g.edges.items m ≡ Some row) × Contains row.items n

-- A function is a root.
abbrev pub IsRoot : Graph → ℕ → Type 0
IsRoot g n = Contains g.roots.items n

-- A way of so many edges leads from a root to a function.
abbrev pub HasWay : Graph → ℕ → ℕ → Type 0
HasWay g zero n = IsRoot g n
HasWay g (suc k) n = (m : ℕ) × HasWay g k m × HasEdge g m n

-- A function is kept if it is a root, or if a kept function depends on it; no other is.
pub data IsKept (g : Graph) : ℕ → Type 0 where
  root : {n : ℕ} → IsRoot g n → IsKept g n
  named : {m n : ℕ} → IsKept g m → HasEdge g m n → IsKept g n

-- All numbers of all rows are below a bound.
abbrev pub AreRowsBelow : ℕ → List (Vec ℕ Global) → Type 0
AreRowsBelow bound rows = All (λ row. All (λ n. n < bound) row.items) rows

-- All numbers are those of functions, and each function has its list of edges.
pub record IsGraph (g : Graph) : Type 0 where
  pub rows : length g.edges.items ≡ g.funs
  pub edges : AreRowsBelow g.funs g.edges.items
  pub roots : All (λ n. n < g.funs) g.roots.items
