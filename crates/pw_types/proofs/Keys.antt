-- The keys by which names are looked up.
use Rattle.std.proofs.Common.{ℕ, List, Vec, Global}

abbrev pub bytes : Vec ℕ Global → List ℕ
bytes key = key.items
