-- The records so far have their numbers.
use Rattle.std.proofs.Common.{◌≡◌, ℕ, take, nat_eq}
use Rattle.indexmap.specs.IndexMap.{get}
use Rattle.pw_image.specs.Records.{record_of}
use Rattle.pw_image.proofs.graph.number_records.Given as goal

abbrev pub invariant-loop-number : goal.invariant-loop-number
invariant-loop-number l = (symbol : ℕ) → get nat_eq l.by_symbol symbol ≡ record_of (take l.number l.records) symbol
