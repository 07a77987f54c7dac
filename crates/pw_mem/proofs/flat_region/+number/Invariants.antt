-- Each call is on one byte less.
use Rattle.std.proofs.Common.{length}
use Rattle.pw_mem.proofs.flat_region.+number.Given as goal

abbrev pub decreases-number : goal.decreases-number
decreases-number l = length l.bytes.now
