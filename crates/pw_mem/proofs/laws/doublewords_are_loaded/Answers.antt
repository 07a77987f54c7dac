-- A doubleword is what a load of 8 bytes gives.
use Rattle.pw_mem.proofs.Words.{load_word}
use Rattle.pw_mem.proofs.laws.doublewords_are_loaded.Goals as goal

pub returns : goal.returns
returns c = load_word
