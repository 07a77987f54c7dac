-- The pointers of one more variable are appended.
use Rattle.std.proofs.Common.{◌≡◌, ◌<◌, length, get_or, subst, arith}
use Rattle.pw_code.specs.Soundness.{IsSoundVariable}
use Rattle.pw_place.specs.Contents.{pointers_in_variable}
use Rattle.pw_place.proofs.Numbered.{numbered_step, next_of_all}
use Rattle.pw_place.proofs.Extents.{few_variables}
use Rattle.pw_place.proofs.pointers.push_unit.Goals as goal

pub push_variable-requires-clause-number : goal.push_variable-requires-clause-number
push_variable-requires-clause-number c =
    let low : c.loop-i.i < length c.args.object.now.vars =
    subst (λ xs. c.loop-i.i < length xs) c.as_slice-x-items.ensures c.loop-i-test.true in
    let few = few_variables c.args.places.now.objects.now c.args.unit c.args.object.now c.requires.unit c.requires.sound in
    omega (arith, c.args.places.now.placed.limits.elements)

pub loop-i-preserved : goal.loop-i-preserved
loop-i-preserved c =
    let x = c.x-item.result in
    let vars = c.args.object.now.vars in
    let low : c.loop-i.i < length vars = subst (λ xs. c.loop-i.i < length xs) c.as_slice-x-items.ensures c.loop-i-test.true in
    let there : x ≡ get_or vars c.loop-i.i x = subst (λ xs. x ≡ get_or xs c.loop-i.i x) c.as_slice-x-items.ensures c.x-item.is in
    record {
      made =
          numbered_step (pointers_in_variable c.args.places.now.kind c.args.places.now.objects.now c.args.unit) vars c.loop-i.i x
          _ _ _ low there c.loop-i.invariant.made c.in_ok-push_variable.ensures;
      left = (next_of_all (IsSoundVariable c.args.object.now) vars c.loop-i.i x low there c.loop-i.invariant.left).1;
    }
