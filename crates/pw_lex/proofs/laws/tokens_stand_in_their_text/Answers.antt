-- The law as proved over plain texts.
use Rattle.pw_lex.proofs.Places.{tokens_stand}
use Rattle.pw_lex.proofs.laws.tokens_stand_in_their_text.Goals as goal

pub returns : goal.returns
returns c = tokens_stand
