-- A store of 8 bytes puts another doubleword in the place of one.
use Rattle.pw_mem.proofs.Words.{store_word}
use Rattle.pw_mem.proofs.laws.doublewords_are_stored.Goals as goal

pub returns : goal.returns
returns c = store_word
