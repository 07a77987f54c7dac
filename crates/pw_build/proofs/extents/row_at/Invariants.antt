-- The row of this number starts here, and none before it holds the address.
use Rattle.std.proofs.Common.{◌≡◌, ◌<◌, ℕ}
use Rattle.pw_build.specs.Extents.{start_of_row, HoldsAddress}
use Rattle.pw_build.proofs.extents.row_at.Given as goal

abbrev pub invariant-loop-row : goal.invariant-loop-row
invariant-loop-row l =
    (l.number ≡ l.row-index) × (l.start ≡ start_of_row l.rows l.row-index)
    × ((m : ℕ) → m < l.row-index → HoldsAddress l.rows l.at m → ⊥)
