-- The numbers so far are flagged.
use Rattle.std.proofs.Common.{◌≡◌, take, length}
use Rattle.pw_types.specs.Steps.Texts.{AreFlags}
use Rattle.pw_types.proofs.external.flags_of.Given as goal

abbrev pub invariant-loop-number : goal.invariant-loop-number
invariant-loop-number l = (length l.flags.items ≡ l.count) × AreFlags (take l.number-index l.used) l.flags.items
