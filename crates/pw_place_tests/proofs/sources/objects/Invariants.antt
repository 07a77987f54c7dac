-- The objects so far are sound.
use Rattle.std.specs.List.{AllByRecursion}
use Rattle.pw_code.specs.Soundness.{IsSound}
use Rattle.pw_place_tests.proofs.sources.objects.Given as goal

abbrev pub invariant-loop-name : goal.invariant-loop-name
invariant-loop-name l = AllByRecursion IsSound l.objects
