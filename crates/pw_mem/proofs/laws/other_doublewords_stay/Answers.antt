-- Putting a doubleword changes no doubleword at another address.
use Rattle.pw_mem.proofs.Words.{word-put_other}
use Rattle.pw_mem.proofs.laws.other_doublewords_stay.Goals as goal

pub returns : goal.returns
returns c = word-put_other
