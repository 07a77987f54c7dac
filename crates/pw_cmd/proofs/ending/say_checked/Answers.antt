-- The parts of the text are those that the row names.
use Rattle.pw_cmd.proofs.ending.say_checked.Goals as goal

pub returns-in-Some : goal.returns-in-Some
returns-in-Some g c =
    rw c.in-Some.is (rw (c.bytes.ensures.bytes, c.unit_of.ensures, c.bytes-in-Some.ensures.bytes, c.kind_of.ensures) at c.say.ensures)

pub returns-in-None : goal.returns-in-None
returns-in-None g c = rw c.in-None.is (rw c.kind_of-in-None.ensures at c.say-in-None.ensures)
