-- What holds each time a loop of `signed_words` in `src/immediate.rt` begins an iteration.
use Rattle.pw_genexpr.proofs.immediate.+signed_words.Given as goal

abbrev pub decreases-signed_words : goal.decreases-signed_words
decreases-signed_words l = l.times
