-- The first name with another text is at fault.
use Rattle.std.proofs.Common.{◌∙◌, ap, sym, subst, option_and_then}
use Rattle.pw_place.specs.Refusals.{type_fault}
use Rattle.pw_place.specs.Steps.Passing.{Passes, first_among}
use Rattle.pw_place.proofs.DifferentNames.{first_difference}
use Rattle.pw_place.proofs.refusals.check_types.Goals as goal

pub returns-in-Some : goal.returns-in-Some
returns-in-Some c =
    let objects = c.args.objects.now in
    let entries = c.args.externals.now.entries in
    subst (λ fault. Passes fault c.check_type.result)
    (sym (first_difference objects entries _ c.requires.names c.in_ok-names.ensures ∙ ap (option_and_then (type_fault objects)) (sym (c.in-Some.ensures ∙ ap (first_among _) c.as_slice.ensures))))
    c.check_type.ensures

pub returns : goal.returns
returns c =
    let objects = c.args.objects.now in
    let entries = c.args.externals.now.entries in
    first_difference objects entries _ c.requires.names c.in_ok-names.ensures ∙ ap (option_and_then (type_fault objects)) (sym (c.in-None.ensures ∙ ap (first_among _) c.as_slice.ensures))
