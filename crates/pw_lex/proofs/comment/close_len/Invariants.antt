-- What is left to search gives what the whole text gives.
use Rattle.std.proofs.Common.{◌≡◌, drop}
use Rattle.pw_lex.specs.Reading.{close_from}
use Rattle.pw_lex.proofs.comment.close_len.Given as goal

abbrev pub invariant-loop-at : goal.invariant-loop-at
invariant-loop-at l = close_from l.at (drop l.at l.text) ≡ close_from 0 l.text
