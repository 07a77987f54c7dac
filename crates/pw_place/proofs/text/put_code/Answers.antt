-- One more item is written.
use Rattle.pw_place.specs.Steps.PlacedItems.{IsPlacedItem}
use Rattle.pw_place.proofs.Numbered.{next_of_all}
use Rattle.pw_place.proofs.Written.{written_step, written_all, stands_step}
use Rattle.pw_place.proofs.text.put_code.Goals as goal

pub loop-item-preserved : goal.loop-item-preserved
loop-item-preserved c =
    let kind = c.args.places.now.kind in
    let objects = c.args.places.now.objects.now in
    let items = c.args.items.now in
    let i = c.loop-item.item-index in
    let low = c.loop-item-test.true in
    let there = c.item-item.is in
    record {
      written =
          written_step kind objects c.args.unit c.loop-item.at items i c.item-item.result c.item_size-at.result _ _ _
          low there c.item_size-at.ensures c.loop-item.invariant.written c.in_ok-put_item.ensures;
      stands =
          stands_step c.loop-item.at c.item_size-at.result items i c.item-item.result _
          low there c.item_size-at.ensures c.loop-item.invariant.stands;
      left = (next_of_all (IsPlacedItem objects c.args.unit) items i c.item-item.result low there c.loop-item.invariant.left).1;
    }

pub returns : goal.returns
returns c =
    written_all c.args.places.now.kind c.args.places.now.objects.now c.args.unit c.loop-item.at c.args.items.now c.loop-item.item-index
    _ _ c.loop-item-test.false c.loop-item.invariant.written
