-- The digits read so far write a number of so many digits.
use Rattle.std.proofs.Common.{◌≡◌, ◌<◌, ◌^◌, take}
use Rattle.pw_cmd.specs.Words.{decimal_value}
use Rattle.pw_cmd.proofs.Digits.{AreDigits}
use Rattle.pw_cmd.proofs.words.steps_of.Given as goal

abbrev pub invariant-loop-digit : goal.invariant-loop-digit
invariant-loop-digit l =
    (l.steps ≡ decimal_value (take l.digit-index l.word)) × (l.steps < 10 ^ l.digit-index) × AreDigits (take l.digit-index l.word)
