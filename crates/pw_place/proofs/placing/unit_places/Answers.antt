-- The functions take no room of the variables.
use Rattle.std.proofs.Common.{ap, ◌∙◌, arith}
use Rattle.pw_place.specs.Places.{initialised_size, uninitialised_size}
use Rattle.pw_place.proofs.Running.{functions_passed}
use Rattle.pw_place.proofs.placing.unit_places.Goals as goal

pub variable_places-requires-clause-initialised : goal.variable_places-requires-clause-initialised
variable_places-requires-clause-initialised c =
    let at = ap (λ n. n.initialised) (c.in_ok-functions.ensures.next ∙ functions_passed c.as_slice.result.now c.args.next.now) in
    let own = ap initialised_size c.as_slice-2.ensures in
    omega (arith, at, own, c.requires.initialised)

pub variable_places-requires-clause-others : goal.variable_places-requires-clause-others
variable_places-requires-clause-others c =
    let at = ap (λ n. n.others) (c.in_ok-functions.ensures.next ∙ functions_passed c.as_slice.result.now c.args.next.now) in
    let own = ap uninitialised_size c.as_slice-2.ensures in
    omega (arith, at, own, c.requires.others)
