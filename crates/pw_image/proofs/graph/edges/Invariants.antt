-- The records so far have their rows.
use Rattle.std.proofs.Common.{◌≡◌, map, take}
use Rattle.std.specs.List.{filter_map}
use Rattle.pw_image.specs.Records.{record_of}
use Rattle.pw_image.proofs.graph.edges.Given as goal

abbrev pub invariant-loop-record : goal.invariant-loop-record
invariant-loop-record l =
    map (λ row. row.items) l.rows.items
    ≡ map (λ r. filter_map (record_of l.numbers.records.now) r.deps) (take l.record-index l.record-items)
