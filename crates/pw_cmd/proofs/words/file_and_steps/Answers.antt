-- The option stands before the file, or after it.
use Rattle.pw_cmd.proofs.Spellings.{no_other_word, option_first, option_last, other_word, same_word}
use Rattle.pw_cmd.proofs.words.file_and_steps.Goals as goal

pub returns-then-eq : goal.returns-then-eq
returns-then-eq c =
    option_first _ _ _ _ (no_other_word _ _ c.if-ne.ensures) c.read_request.result (same_word _ _ c.if-eq.ensures) c.read_request.ensures

pub returns-then-eq-2 : goal.returns-then-eq-2
returns-then-eq-2 c =
    option_last _ _ _ _ (no_other_word _ _ c.if-ne.ensures) c.read_request-then-eq-2.result (other_word _ _ c.if-eq.ensures)
    (same_word _ _ c.if-eq-2.ensures) c.read_request-then-eq-2.ensures
