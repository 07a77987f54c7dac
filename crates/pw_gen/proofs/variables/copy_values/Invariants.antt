-- The copies made so far are the first values.
use Rattle.std.proofs.Common.{◌≡◌, take}
use Rattle.pw_gen.proofs.variables.copy_values.Given as goal

abbrev pub invariant-loop-value : goal.invariant-loop-value
invariant-loop-value l = l.copies ≡ take l.value-index l.values
