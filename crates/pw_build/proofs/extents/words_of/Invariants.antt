-- The bytes so far are those of the first rows.
use Rattle.std.proofs.Common.{◌≡◌, take}
use Rattle.pw_build.specs.Extents.{bytes_of_rows}
use Rattle.pw_build.proofs.extents.words_of.Given as goal

abbrev pub invariant-loop-row : goal.invariant-loop-row
invariant-loop-row l = l.bytes ≡ bytes_of_rows (take l.row-index l.rows)
