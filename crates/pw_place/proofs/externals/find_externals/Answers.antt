-- The entries that joined are the first of each name.
use Rattle.std.proofs.Common.{◌∙◌, ap, fold, []}
use Rattle.std.proofs.lemmas.List.{take_all}
use Rattle.pw_place.specs.Steps.ExternalLists.{unit_joined}
use Rattle.pw_place.proofs.FirstNames.{entries_are_first}
use Rattle.pw_place.proofs.externals.find_externals.Goals as goal

pub returns : goal.returns
returns c =
    c.loop-object.invariant.joined
    ∙ ap (fold unit_joined []) (take_all _ c.args.objects.now c.loop-object-test.false)
    ∙ entries_are_first c.args.objects.now
