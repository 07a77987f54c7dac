-- Where no regions have an address in common, the one that holds some bytes is seen at them.
use Rattle.pw_mem.proofs.Apart.{holders_are_seen}
use Rattle.pw_mem.proofs.laws.holders_are_seen.Goals as goal

pub returns : goal.returns
returns c = holders_are_seen
