-- The number so far is that of the digits so far.
use Rattle.std.proofs.Common.{◌≡◌, ◌≤◌, ◌<◌, ◌∷◌, ◌^◌, ◌+◌, take, decimal}
use Rattle.pw_base.proofs.type_text.number.Given as goal

abbrev pub invariant-loop-digit : goal.invariant-loop-digit
invariant-loop-digit l = (decimal l.number ≡ l.fn.first ∷ take l.digit-index l.more) × (1 ≤ l.number) × (l.number < 10 ^ (l.digit-index + 1))
