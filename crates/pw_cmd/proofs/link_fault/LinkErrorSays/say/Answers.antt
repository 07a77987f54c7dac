-- The text of the type is the one that it has.
use Rattle.pw_cmd.proofs.link_fault.LinkErrorSays.say.Goals as goal

pub returns-in-MainType : goal.returns-in-MainType
returns-in-MainType g c = rw c.in-MainType.is (rw c.bytes-in-MainType.ensures.bytes at c.say-in-MainType.ensures)
