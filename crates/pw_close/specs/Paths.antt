-- The way from a root to a kept function by parents.
use Rattle.std.specs.Global.{Global}
use Rattle.std.specs.Prelude.{◌≡◌, ℕ, suc, List, [], ◌∷◌, Option, Some, None, Result, Ok, Err, length, reverse, Vec, ⊤}
use Rattle.pw_base.specs.declared.no_memory.NoMemory.{NoMemory}
use Rattle.pw_close.specs.Closure.{level_of, parent_of}
use Rattle.pw_close.specs.declared.graph.Levels.{Levels}

-- From a function upwards: each function's parent is next, and the last one is a root.
unfoldable pub GoesUp : Levels → ℕ → List ℕ → Type 0
GoesUp levels n [] = ⊥
GoesUp levels n (m ∷ []) = (m ≡ n) × (level_of levels n ≡ Some 0)
GoesUp levels n (m ∷ (p ∷ ps)) = (m ≡ n) × (parent_of levels n ≡ Some p) × GoesUp levels p (p ∷ ps)

-- From a root down to a function.
abbrev pub IsPath : Levels → ℕ → List ℕ → Type 0
IsPath levels n path = GoesUp levels n (reverse path)

-- Each function above level 0 has a parent of the level one less.
pub record HaveParents (levels : Levels) : Type 0 where
  pub parents_all : length levels.parent.items ≡ length levels.level.items
  pub parent : (n k : ℕ) → level_of levels n ≡ Some (suc k) → (p : ℕ) × (parent_of levels n ≡ Some p) × (level_of levels p ≡ Some k)

-- A path to a function of level k has k + 1 functions.
pub record LeadsTo (levels : Levels) (n : ℕ) (path : List ℕ) : Type 0 where
  pub level : ℕ
  pub level_is : level_of levels n ≡ Some level
  pub length_is : length path ≡ suc level
  pub is : IsPath levels n path

-- the path to a kept function, or that the function is not kept
abbrev pub FindsPath : Levels → ℕ → Result (Option (Vec ℕ Global)) NoMemory → Type 0
FindsPath levels n (Ok (Some path)) = LeadsTo levels n path.items
FindsPath levels n (Ok None) = level_of levels n ≡ None
FindsPath levels n (Err e) = ⊤
