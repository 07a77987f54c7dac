-- Once a memory is sealed, putting a doubleword changes no instruction word.
use Rattle.pw_mem.proofs.Words.{fetch-put_word}
use Rattle.pw_mem.proofs.laws.doublewords_are_no_text.Goals as goal

pub returns : goal.returns
returns c = fetch-put_word
