-- What holds each time a loop of `expression` in `src/expression.rt` begins an iteration.
use Rattle.pw_parse.proofs.expression.+expression.Given as goal

abbrev pub decreases-expression : goal.decreases-expression
decreases-expression l = l.depth
