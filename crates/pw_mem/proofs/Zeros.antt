-- So many zeros are so many bytes.
use Rattle.std.proofs.Common.{◌≡◌, ℕ, length, rules}
use Rattle.std.proofs.lemmas.List.{places}
use Rattle.pw_mem.specs.Memory.{zeros}

pub length_of_zeros : (n : ℕ) → length (zeros n) ≡ n
unfolding zeros
length_of_zeros n = search (rules, places)
