-- The pointers of one more unit are appended, and all of them have places.
use Rattle.std.proofs.Common.{sym, ◌∙◌, ap, subst}
use Rattle.std.proofs.lemmas.List.{take_all}
use Rattle.std.specs.List.{flat_map, enumerate_from, AllByRecursion}
use Rattle.pw_code.specs.Soundness.{IsSound}
use Rattle.pw_place.specs.Contents.{pointers_in_unit}
use Rattle.pw_place.specs.Steps.PointerPlaces.{IsPlacedPointer}
use Rattle.pw_place.proofs.Numbered.{numbered_next, next_of_all}
use Rattle.pw_place.proofs.PlacedRefs.{pointers_placed}
use Rattle.pw_place.proofs.pointers.pointers.Goals as goal

pub loop-unit-preserved : goal.loop-unit-preserved
loop-unit-preserved c =
    let objects = c.args.places.now.objects.now in
    let low = c.loop-unit-test.true in
    let there = c.object-item.is in
    record {
      made =
          numbered_next (pointers_in_unit c.args.places.now.kind objects) objects c.loop-unit.unit c.object-item.result
          _ _ low there c.loop-unit.invariant.made c.in_ok-push_unit.ensures;
      left = (next_of_all IsSound objects c.loop-unit.unit c.object-item.result low there c.loop-unit.invariant.left).1;
    }

pub returns-clause-placed : goal.returns-clause-placed
returns-clause-placed c =
    let kind = c.args.places.now.kind in
    let objects = c.args.places.now.objects.now in
    let all = c.loop-unit.invariant.made
    ∙ ap (λ os. flat_map (pointers_in_unit kind objects) (enumerate_from 0 os)) (take_all c.loop-unit.unit objects c.loop-unit-test.false) in
    subst (AllByRecursion (IsPlacedPointer objects)) (sym all) (pointers_placed kind objects c.requires)
