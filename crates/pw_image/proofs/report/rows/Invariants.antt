-- The rows so far are those of the first records.
use Rattle.std.proofs.Common.{◌≡◌, map, take}
use Rattle.std.specs.List.{enumerate_from}
use Rattle.pw_image.specs.Reported.{row_of}
use Rattle.pw_image.proofs.report.rows.Given as goal

abbrev pub invariant-loop-n : goal.invariant-loop-n
invariant-loop-n l = l.rows ≡ map (row_of l.module l.placed l.levels) (enumerate_from 0 (take l.n l.placed.deps.funs))
