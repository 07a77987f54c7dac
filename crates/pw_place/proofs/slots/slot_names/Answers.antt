-- The names that joined are the first of each.
use Rattle.std.proofs.Common.{◌∙◌, ap, fold, []}
use Rattle.std.proofs.lemmas.List.{take_all}
use Rattle.pw_place.specs.Sizes.{entry_items}
use Rattle.pw_place.specs.Steps.NameLists.{code_joined, object_joined}
use Rattle.pw_place.proofs.FirstNames.{slots_are_first}
use Rattle.pw_place.proofs.slots.slot_names.Goals as goal

pub returns : goal.returns
returns c =
    c.loop-object.invariant
    ∙ ap (fold object_joined (code_joined [] (entry_items c.args.kind))) (take_all _ c.args.objects.now c.loop-object-test.false)
    ∙ slots_are_first c.args.kind c.args.objects.now
