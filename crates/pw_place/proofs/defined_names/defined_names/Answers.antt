-- The names that were gathered are those that are defined.
use Rattle.std.proofs.Common.{◌∙◌, ap, sym, subst, fold}
use Rattle.std.proofs.lemmas.List.{take_all}
use Rattle.pw_place.specs.Steps.DefinedNames.{unit_defined, no_names, AreDefinedNames}
use Rattle.pw_place.proofs.DefinedTwice.{are_defined}
use Rattle.pw_place.proofs.defined_names.defined_names.Goals as goal

pub returns : goal.returns
returns c =
    subst (AreDefinedNames c.args.objects.now)
    (sym (c.loop-object.invariant ∙ ap (fold unit_defined no_names) (take_all _ c.args.objects.now c.loop-object-test.false)))
    (are_defined c.args.objects.now)
