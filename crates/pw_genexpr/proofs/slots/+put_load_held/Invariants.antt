-- What holds each time a loop of `put_load_held` in `src/slots.rt` begins an iteration.
use Rattle.pw_genexpr.proofs.slots.+put_load_held.Given as goal

abbrev pub decreases-put_load_held : goal.decreases-put_load_held
decreases-put_load_held l = l.count
