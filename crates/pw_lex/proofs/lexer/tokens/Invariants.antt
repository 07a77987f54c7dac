-- The text up to what is left is pieces, whose tokens were kept.
use Rattle.std.proofs.Common.{length}
use Rattle.pw_lex.proofs.Whole.{IsRead}
use Rattle.pw_lex.proofs.lexer.tokens.Given as goal

abbrev pub invariant-loop-rest : goal.invariant-loop-rest
invariant-loop-rest l = IsRead l.text l.rest l.tokens l.line

abbrev pub decreases-loop-rest : goal.decreases-loop-rest
decreases-loop-rest l = length l.rest
