-- The byte that is put is the lowest of a0.
use Rattle.std.proofs.Common.{◌%◌, ap}
use Rattle.pw_hart.proofs.Uses.{uses_put}
use Rattle.pw_hart.proofs.hart.Hart.put_output.Goals as goal

pub returns-in-Ok : goal.returns-in-Ok
returns-in-Ok g c = rw c.in-Ok.ensures.ok (uses_put _ _ _ _ (ap (λ n. n % 256) c.get.ensures) c.advance.ensures)
