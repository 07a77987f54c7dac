-- The first unit that has an entry with another text has the first one.
use Rattle.std.proofs.Common.{◌+◌, ◌∙◌, ap, sym, find, drop}
use Rattle.std.specs.Option.{option_or}
use Rattle.pw_place.specs.Names.{declared_names}
use Rattle.pw_place.specs.Steps.OtherTexts.{is_other}
use Rattle.pw_place.proofs.Found.{found_more}
use Rattle.pw_place.proofs.other_texts.other_entry.Goals as goal

pub returns-in-Some : goal.returns-in-Some
returns-in-Some c =
    let p = is_other c.args.n.now in
    let objects = c.args.objects.now in
    let i = c.loop-object.object-index in
    let rest = find p (declared_names (drop (i + 1) objects)) in
    ap (λ it. option_or it rest) (c.in-Some.ensures ∙ ap (find p) c.as_slice.ensures)
    ∙ sym (found_more p (λ o. o.names) objects i c.object-item.result c.loop-object-test.true c.object-item.is)
    ∙ c.loop-object.invariant

pub loop-object-preserved : goal.loop-object-preserved
loop-object-preserved c =
    let p = is_other c.args.n.now in
    let objects = c.args.objects.now in
    let i = c.loop-object.object-index in
    let rest = find p (declared_names (drop (i + 1) objects)) in
    ap (λ it. option_or it rest) (c.in_default.ensures ∙ ap (find p) c.as_slice.ensures)
    ∙ sym (found_more p (λ o. o.names) objects i c.object-item.result c.loop-object-test.true c.object-item.is)
    ∙ c.loop-object.invariant
