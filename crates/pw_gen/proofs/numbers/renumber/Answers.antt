-- One more item is as in the object.
use Rattle.std.proofs.Common.{sym, ap, ◌∙◌}
use Rattle.pw_code.specs.Objects.{item_in_order}
use Rattle.pw_gen.proofs.NumberLists.{mapped_more}
use Rattle.pw_gen.proofs.numbers.renumber.Goals as goal

pub loop-item-preserved : goal.loop-item-preserved
loop-item-preserved c =
    let f = item_in_order c.args.vars.now in
    mapped_more f c.loop-item.items c.args.items.now c.loop-item.item-index c.item-item.result c.renumber_item.new.item c.loop-item.invariant
    c.loop-item-test.true c.item-item.is (c.renumber_item.ensures ∙ ap f (sym c.item-item.is))
