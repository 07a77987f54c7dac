-- What one step of the closure marks, of two lists, the levels and the parents: the words of private contracts.
use Rattle.std.specs.Prelude.{◌≡◌, ℕ, suc, ◌≤◌, ◌<◌, List, Option, Some, None, is_none, length, slice_index_or}
use Rattle.std.specs.List.{Contains, count_by}
use Rattle.pw_close.specs.Graphs.{HasEdge}
use Rattle.pw_close.specs.declared.graph.Graph.{Graph}

-- what stands at a number
abbrev pub entry : List (Option ℕ) → ℕ → Option ℕ
entry xs n = slice_index_or xs n None

-- how many functions have no level
abbrev pub unmarked : List (Option ℕ) → ℕ
unmarked levels = count_by is_none levels

-- no function has a level or a parent
pub record AreFresh (count : ℕ) (levels parents : List (Option ℕ)) : Type 0 where
  pub levels_all : length levels ≡ count
  pub parents_all : length parents ≡ count
  pub level : (n : ℕ) → entry levels n ≡ None
  pub parent : (n : ℕ) → entry parents n ≡ None

-- these roots have level 0, and no other function has a level
pub record MarksRoots (roots : List ℕ) (count : ℕ) (levels parents : List (Option ℕ)) : Type 0 where
  pub levels_all : length levels ≡ count
  pub parents_all : length parents ≡ count
  pub root : (n : ℕ) → Contains roots n → entry levels n ≡ Some 0
  pub only : (n j : ℕ) → entry levels n ≡ Some j → (j ≡ 0) × Contains roots n
  pub parent : (n : ℕ) → entry parents n ≡ None

-- the functions of a row that had no level have this one now, and this parent
pub record MarksRow (row : List ℕ) (k p : ℕ) (levels parents levels' parents' : List (Option ℕ)) : Type 0 where
  pub levels_all : length levels' ≡ length levels
  pub parents_all : length parents' ≡ length parents
  pub kept : (n j : ℕ) → entry levels n ≡ Some j → (entry levels' n ≡ Some j) × (entry parents' n ≡ entry parents n)
  pub fresh : (n j : ℕ) → entry levels n ≡ None → entry levels' n ≡ Some j →
      (j ≡ k) × (entry parents' n ≡ Some p) × Contains row n
  pub rest : (n : ℕ) → entry levels n ≡ None → entry levels' n ≡ None →
      (entry parents' n ≡ entry parents n) × (Contains row n → ⊥)

-- the first of the functions below `end` that have this level and lead to a function
pub record IsFirstBefore (g : Graph) (k end : ℕ) (levels : List (Option ℕ)) (n m : ℕ) : Type 0 where
  pub below : m < end
  pub level : entry levels m ≡ Some k
  pub edge : HasEdge g m n
  pub first : (q : ℕ) → entry levels q ≡ Some k → HasEdge g q n → m ≤ q

-- what the functions of level k below `end` lead to, and had no level, has the next level, and the first of them as its parent
pub record MarksNext (g : Graph) (k end : ℕ) (levels parents levels' parents' : List (Option ℕ)) : Type 0 where
  pub levels_all : length levels' ≡ length levels
  pub parents_all : length parents' ≡ length parents
  pub kept : (n j : ℕ) → entry levels n ≡ Some j → (entry levels' n ≡ Some j) × (entry parents' n ≡ entry parents n)
  pub fresh : (n j : ℕ) → entry levels n ≡ None → entry levels' n ≡ Some j →
      (j ≡ suc k) × (p : ℕ) × (entry parents' n ≡ Some p) × IsFirstBefore g k end levels n p
  pub rest : (n : ℕ) → entry levels n ≡ None → entry levels' n ≡ None →
      (entry parents' n ≡ entry parents n) × ((m : ℕ) → m < end → entry levels m ≡ Some k → HasEdge g m n → ⊥)
