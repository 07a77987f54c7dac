-- The lines so far are those of the first tokens.
use Rattle.std.proofs.Common.{◌≡◌, take, map}
use Rattle.pw_parse.proofs.whole.lines.Given as goal

abbrev pub invariant-loop-token : goal.invariant-loop-token
invariant-loop-token l = l.lines ≡ map (λ t. t.line) (take l.token-index l.tokens)
