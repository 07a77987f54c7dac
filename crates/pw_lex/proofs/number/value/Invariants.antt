-- The value so far and the digits that are left give the value of all.
use Rattle.std.proofs.Common.{◌≡◌, drop}
use Rattle.pw_lex.specs.Number.{base, value_after, value}
use Rattle.pw_lex.proofs.number.value.Given as goal

abbrev pub invariant-loop-digit : goal.invariant-loop-digit
invariant-loop-digit l =
    (value_after l.fn.radix l.value (drop l.digit-index l.digits) ≡ value l.fn.radix l.digits) × (l.base ≡ base l.fn.radix)
