-- The region that holds some bytes is the one that they are written into.
use Rattle.pw_mem.proofs.Apart.{holders_are_written}
use Rattle.pw_mem.proofs.laws.holders_are_written.Goals as goal

pub returns : goal.returns
returns c = holders_are_written
