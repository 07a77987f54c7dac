-- The record of one more pointer is appended.
use Rattle.std.proofs.Common.{◌∙◌, [], ◌∷◌, ◌++◌, ap}
use Rattle.pw_place.specs.Tables.{root_record}
use Rattle.pw_place.specs.Steps.PointerPlaces.{pointer_of, IsPlacedPointer}
use Rattle.pw_place.proofs.MappedItems.{seen_step, all_seen_so}
use Rattle.pw_place.proofs.Numbered.{next_of_all}
use Rattle.pw_place.proofs.records.root_records.Goals as goal

pub loop-p-init : goal.loop-p-init
loop-p-init c =
    let objects = c.args.numbers.now.places.now.objects.now in
    record {
      made = c.new-roots.ensures;
      left = all_seen_so (IsPlacedPointer objects) pointer_of c.args.pointers.now c.requires;
    }

pub root_record-requires : goal.root_record-requires
root_record-requires c =
    let objects = c.args.numbers.now.places.now.objects.now in
    (next_of_all (λ p. IsPlacedPointer objects (pointer_of p)) c.args.pointers.now c.loop-p.p-index c.p-item.result c.loop-p-test.true
    c.p-item.is c.loop-p.invariant.left).0

pub loop-p-preserved : goal.loop-p-preserved
loop-p-preserved c =
    let places = c.args.numbers.now.places.now in
    record {
      made = seen_step (root_record places.kind places.objects.now) pointer_of c.args.pointers.now c.loop-p.p-index c.p-item.result
          _ _ c.loop-p-test.true c.p-item.is c.loop-p.invariant.made
          (c.in_ok-push.ensures.ok ∙ ap (λ r. c.loop-p.roots ++ r ∷ []) c.root_record.ensures);
      left = (next_of_all (λ p. IsPlacedPointer places.objects.now (pointer_of p)) c.args.pointers.now c.loop-p.p-index c.p-item.result
          c.loop-p-test.true c.p-item.is c.loop-p.invariant.left).1;
    }
