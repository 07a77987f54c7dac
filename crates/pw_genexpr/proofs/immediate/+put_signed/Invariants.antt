-- What holds each time a loop of `put_signed` in `src/immediate.rt` begins an iteration.
use Rattle.pw_genexpr.proofs.immediate.+put_signed.Given as goal

abbrev pub decreases-put_signed : goal.decreases-put_signed
decreases-put_signed l = l.times
