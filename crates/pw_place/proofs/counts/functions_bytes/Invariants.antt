-- The bytes of the functions so far.
use Rattle.std.proofs.Common.{◌≡◌, take, sum_by}
use Rattle.pw_place.specs.Sizes.{function_bytes}
use Rattle.pw_place.proofs.counts.functions_bytes.Given as goal

abbrev pub invariant-loop-f : goal.invariant-loop-f
invariant-loop-f l = l.bytes ≡ sum_by function_bytes (take l.f-index l.funs)
