-- One more function is placed, and the next one stands after it.
use Rattle.std.proofs.Common.{◌+◌, ◌++◌, [], ◌∷◌, sym, ap, ◌∙◌, take, arith}
use Rattle.std.proofs.lemmas.List.Sums.{sum_by_more_le}
use Rattle.pw_place.specs.Sizes.{function_bytes}
use Rattle.pw_place.specs.Steps.Running.{function_place, after_function}
use Rattle.pw_place.specs.declared.placing.Next.{Next}
use Rattle.pw_place.proofs.Running.{running_more, after_more, functions_passed}
use Rattle.pw_place.proofs.placing.function_places.Goals as goal

pub overflow_add-next : goal.overflow_add-next
overflow_add-next c =
    let at = ap (λ n. n.function) (c.loop-f.invariant.next ∙ functions_passed (take c.loop-f.f-index c.args.funs.now) c.args.next.now) in
    let within = sum_by_more_le function_bytes c.args.funs.now c.loop-f.f-index c.f-item.result c.loop-f-test.true in
    let same = ap function_bytes c.f-item.is in
    omega (arith, at, within, same, c.requires, c.function_bytes.ensures)

pub loop-f-preserved : goal.loop-f-preserved
loop-f-preserved c =
    let funs = c.args.funs.now in
    let i = c.loop-f.f-index in
    let f = c.f-item.result in
    let own : Next = c.loop-f.next in
    let bytes = c.function_bytes.ensures in
    record {
      places =
          c.in_ok-push.ensures.ok
          ∙ (λ j. c.loop-f.invariant.places j ++ (c.loop-f.invariant.next j).function ∷ [])
          ∙ sym (running_more function_place after_function c.args.next.now funs i f c.loop-f-test.true c.f-item.is);
      next =
          (λ j. record own { function = own.function + bytes j })
          ∙ ap (λ n. after_function n f) c.loop-f.invariant.next
          ∙ sym (after_more function_place after_function c.args.next.now funs i f c.loop-f-test.true c.f-item.is);
    }
