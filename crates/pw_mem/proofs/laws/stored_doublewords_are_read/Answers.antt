-- A doubleword that was put in the place of another is the doubleword there.
use Rattle.pw_mem.proofs.Words.{word-put_same}
use Rattle.pw_mem.proofs.laws.stored_doublewords_are_read.Goals as goal

pub returns : goal.returns
returns c = word-put_same
