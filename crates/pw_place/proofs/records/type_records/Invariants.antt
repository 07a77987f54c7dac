-- The records so far are those of the first symbols.
use Rattle.std.proofs.Common.{◌≡◌, take}
use Rattle.std.specs.List.{flat_map, enumerate_from}
use Rattle.pw_place.specs.Tables.{type_records_of}
use Rattle.pw_place.proofs.records.type_records.Given as goal

abbrev pub invariant-loop-n : goal.invariant-loop-n
invariant-loop-n l = l.types ≡ flat_map type_records_of (enumerate_from 0 (take l.n l.symbols))
