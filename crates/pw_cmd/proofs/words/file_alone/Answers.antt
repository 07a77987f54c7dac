-- Where the word names no file, the words are of no command.
use Rattle.std.proofs.lemmas.Result.{err_from_is_err_and}
use Rattle.pw_cmd.proofs.Spellings.{alone_refused, no_other_word}
use Rattle.pw_cmd.proofs.words.file_alone.Goals as goal

pub returns-in_err-file : goal.returns-in_err-file
returns-in_err-file c =
    let p = err_from_is_err_and c.from_residual.result c.from_residual.ensures.1 in
    rw (p.1, p.2) (alone_refused _ _ _ (no_other_word _ _ c.if-ne.ensures) c.in_err-file.ensures)
