-- The objects so far are sound.
use Rattle.std.specs.List.{AllByRecursion}
use Rattle.pw_code.specs.Soundness.{IsSound}
use Rattle.pw_place_tests.proofs.limits.many.Given as goal

abbrev pub invariant-loop-n : goal.invariant-loop-n
invariant-loop-n l = AllByRecursion IsSound l.objects
