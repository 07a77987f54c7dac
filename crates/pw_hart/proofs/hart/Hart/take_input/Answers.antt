-- What is taken, by what the input gives.
use Rattle.std.proofs.Common.{◌<◌, arith}
use Rattle.pw_hart.proofs.Uses.{uses_end, uses_up, uses_byte}
use Rattle.pw_hart.proofs.hart.Hart.take_input.Goals as goal

pub returns-then-used_up : goal.returns-then-used_up
returns-then-used_up g c = rw c.if-used_up.true (uses_end _ _ _ c.advance.ensures)

pub returns-in-Byte : goal.returns-in-Byte
returns-in-Byte g c =
    let small : c.in-Byte.byte < 256 = omega arith in
    let writes = rw c.from.ensures at c.advance-in-Byte.ensures in
    rw (c.if-used_up.false, c.in-Byte.ensures.0) (uses_byte _ _ _ _ small c.in-Byte.ensures.1 writes)

pub returns-in-End : goal.returns-in-End
returns-in-End g c = rw (c.if-used_up.false, c.in-End.ensures.0) (uses_up _ _ _ c.in-End.ensures.1 c.advance-in-End.ensures)
