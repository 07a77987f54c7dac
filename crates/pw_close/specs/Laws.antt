-- Laws of levels.
use Rattle.std.specs.Prelude.{◌≡◌, ℕ, Some}
use Rattle.pw_close.specs.Graphs.{HasWay, IsKept}
use Rattle.pw_close.specs.Closure.{level_of, AreLevels}
use Rattle.pw_close.specs.Paths.{HaveParents}
use Rattle.pw_close.specs.declared.graph.Graph.{Graph}
use Rattle.pw_close.specs.declared.graph.Levels.{Levels}

-- a function is kept exactly if some way leads to it
abbrev pub KeptByWays : Type 0
KeptByWays = (g : Graph) (n : ℕ) → ((k : ℕ) (way : HasWay g k n) → IsKept g n) × (IsKept g n → (k : ℕ) × HasWay g k n)

-- a kept function has a level
abbrev pub KeptHaveLevels : Type 0
KeptHaveLevels = (g : Graph) (levels : Levels) → AreLevels g levels → (n : ℕ) → IsKept g n → (k : ℕ) × (level_of levels n ≡ Some k)

-- and what has a level is kept
abbrev pub LevelsAreKept : Type 0
LevelsAreKept = (g : Graph) (levels : Levels) → AreLevels g levels → (n k : ℕ) → level_of levels n ≡ Some k → IsKept g n

-- a kept function above level 0 has a parent one level lower
abbrev pub ParentsAreLower : Type 0
ParentsAreLower = (g : Graph) (levels : Levels) → AreLevels g levels → HaveParents levels
