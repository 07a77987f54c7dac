-- The record of one more symbol is appended.
use Rattle.pw_place.specs.Tables.{type_records_of}
use Rattle.pw_place.proofs.Numbered.{numbered_next}
use Rattle.pw_place.proofs.records.type_records.Goals as goal

pub loop-n-preserved : goal.loop-n-preserved
loop-n-preserved c =
    numbered_next type_records_of c.args.symbols.now c.loop-n.n c.index-symbols-n.result _ _ c.loop-n-test.true c.index-symbols-n.is
    c.loop-n.invariant c.in_ok-push_type.ensures
