-- The words of one more function are appended.
use Rattle.std.proofs.Common.{◌≡◌, ◌<◌, length, get_or, sym, subst}
use Rattle.std.proofs.lemmas.List.{append-nil}
use Rattle.pw_place.specs.Contents.{words_of_function}
use Rattle.pw_place.specs.Steps.PlacedItems.{IsPlacedFunction}
use Rattle.pw_place.proofs.Numbered.{numbered_step, next_of_all}
use Rattle.pw_place.proofs.PlacedRefs.{functions_placed}
use Rattle.pw_place.proofs.text.put_unit.Goals as goal

pub loop-i-preserved : goal.loop-i-preserved
loop-i-preserved c =
    let kind = c.args.places.now.kind in
    let objects = c.args.places.now.objects.now in
    let f = c.f-item.result in
    let funs = c.args.object.now.funs in
    let low : c.loop-i.i < length funs = subst (λ fs. c.loop-i.i < length fs) c.as_slice-f-items.ensures c.loop-i-test.true in
    let there : f ≡ get_or funs c.loop-i.i f = subst (λ fs. f ≡ get_or fs c.loop-i.i f) c.as_slice-f-items.ensures c.f-item.is in
    record {
      written =
          numbered_step (words_of_function kind objects c.args.unit) funs c.loop-i.i f _ _ _
          low there c.loop-i.invariant.written c.in_ok-put_function.ensures;
      left = (next_of_all (IsPlacedFunction objects c.args.unit) funs c.loop-i.i f low there c.loop-i.invariant.left).1;
    }

pub loop-i-init : goal.loop-i-init
loop-i-init c =
    let objects = c.args.places.now.objects.now in
    let o = c.args.object.now in
    record {
      written = sym (append-nil c.args.words.now);
      left = functions_placed objects c.args.unit o c.requires.unit o.funs c.requires.sound.functions;
    }
