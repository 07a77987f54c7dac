-- One more slot is appended.
use Rattle.std.proofs.Common.{◌<◌, ◌++◌, ap, sym, ◌∙◌, subst, take, flat_map, append_assoc}
use Rattle.pw_base.specs.Field.{field}
use Rattle.pw_place.proofs.Numbered.{same_more}
use Rattle.pw_place.proofs.data.put_slots.Goals as goal

pub loop-preserved : goal.loop-preserved
loop-preserved c =
    let low = subst (λ n. c.loop.counter < n) c.len-end.ensures c.loop-test.true in
    let more = same_more (field 8 0) c.args.names.now c.loop.counter low in
    c.in_ok-put_u64.ensures.ok ∙ ap (λ zs. zs ++ field 8 0) c.loop.invariant
    ∙ append_assoc c.args.to.now.items (flat_map (λ name. field 8 0) (take c.loop.counter c.args.names.now)) (field 8 0)
    ∙ ap (λ zs. c.args.to.now.items ++ zs) (sym more)
