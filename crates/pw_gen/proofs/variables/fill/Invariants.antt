-- The values, and as many zeros as were added.
use Rattle.std.proofs.Common.{◌≡◌, ◌++◌, replicate}
use Rattle.pw_tree.specs.declared.tunit.Init.TheVariants.{Num}
use Rattle.pw_gen.proofs.variables.fill.Given as goal

abbrev pub invariant-loop-added : goal.invariant-loop-added
invariant-loop-added l = l.full ≡ l.values ++ replicate l._added (Num 0)
