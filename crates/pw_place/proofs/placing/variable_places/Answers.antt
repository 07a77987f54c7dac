-- One more variable is placed, and the next ones stand after it.
use Rattle.std.proofs.Common.{◌++◌, [], ◌∷◌, sym, ap, ◌∙◌, ◌^◌}
use Rattle.pw_place.specs.Steps.Running.{variable_place, after_variable}
use Rattle.pw_place.proofs.Running.{running_more, after_more, room_for}
use Rattle.pw_place.proofs.placing.variable_places.Goals as goal

pub after_variable-requires-clause-few : goal.after_variable-requires-clause-few
after_variable-requires-clause-few c =
    (room_for c.args.next.now c.args.vars.now c.loop-x.x-index c.x-item.result c.loop-x.next (2 ^ 32) c.loop-x-test.true c.x-item.is c.loop-x.invariant.next
    c.requires.initialised c.requires.others).0

pub after_variable-requires-clause-initialised : goal.after_variable-requires-clause-initialised
after_variable-requires-clause-initialised c =
    (room_for c.args.next.now c.args.vars.now c.loop-x.x-index c.x-item.result c.loop-x.next (2 ^ 32) c.loop-x-test.true c.x-item.is c.loop-x.invariant.next
    c.requires.initialised c.requires.others).1

pub after_variable-requires-clause-others : goal.after_variable-requires-clause-others
after_variable-requires-clause-others c =
    (room_for c.args.next.now c.args.vars.now c.loop-x.x-index c.x-item.result c.loop-x.next (2 ^ 32) c.loop-x-test.true c.x-item.is c.loop-x.invariant.next
    c.requires.initialised c.requires.others).2

pub loop-x-preserved : goal.loop-x-preserved
loop-x-preserved c =
    let vars = c.args.vars.now in
    let i = c.loop-x.x-index in
    let x = c.x-item.result in
    record {
      places =
          c.in_ok-push.ensures.ok
          ∙ ap (λ p. c.loop-x.places ++ p ∷ []) c.variable_place.ensures
          ∙ (λ j. c.loop-x.invariant.places j ++ variable_place (c.loop-x.invariant.next j) x ∷ [])
          ∙ sym (running_more variable_place after_variable c.args.next.now vars i x c.loop-x-test.true c.x-item.is);
      next =
          c.after_variable.ensures
          ∙ ap (λ n. after_variable n x) c.loop-x.invariant.next
          ∙ sym (after_more variable_place after_variable c.args.next.now vars i x c.loop-x-test.true c.x-item.is);
    }
