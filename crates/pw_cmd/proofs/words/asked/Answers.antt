-- Four words are those at their numbers.
use Rattle.std.specs.String.{string_bytes}
use Rattle.pw_cmd.proofs.Spellings.{four_words}
use Rattle.pw_cmd.proofs.words.asked.Goals as goal

pub returns-in-4 : goal.returns-in-4
returns-in-4 c =
    let four = four_words string_bytes c.args.words.now _ _ _ _ c.in-4.is c.index-words-0-in-4.is c.index-words-1-in-4.is
    c.index-words-2.is c.index-words-3.is in
    let said = rw (c.as_bytes-in-4.ensures.value, c.as_bytes-in-4-2.ensures.value) at c.file_and_steps.ensures in
    rw four (rw (c.as_bytes-in-4-3.ensures.value, c.as_bytes-in-4-4.ensures.value) at said)
