-- No byte before is zero, so what is found stands after them.
use Rattle.std.proofs.Common.{◌≡◌, take, drop}
use Rattle.pw_elf.specs.Strings.{until_zero}
use Rattle.pw_elf.proofs.Texts.{preceded_by}
use Rattle.pw_elf.proofs.string.until_zero.Given as goal

abbrev pub invariant-loop-i : goal.invariant-loop-i
invariant-loop-i l = preceded_by (take l.i l.bytes) (until_zero (drop l.i l.bytes)) ≡ until_zero l.bytes
