-- The parts are computed without loss.
use Rattle.std.proofs.Common.{ap, ◌∙◌, pos, w64}
use Rattle.std.specs.Int.{int_rem_euclid}
use mir.Val.{SFits}
use Rattle.pw_place.proofs.Near.{sum_computed, upper_computed, lower_computed, natural}
use Rattle.pw_place.proofs.distance.hi_lo.Goals as goal

pub returns : goal.returns
returns c =
    let d = c.args.distance in
    let s = sum_computed d c.requires in
    let fits : SFits w64 c.rem_euclid-hi.result = record { sfits = c.rem_euclid-hi.type_inv } in
    record {
      upper_part = natural c.rem_euclid-hi.result c.rem_euclid-hi.ensures.lower_bound fits ∙ c.rem_euclid-hi.ensures.value
          ∙ ap (λ u. int_rem_euclid u (pos 1048576)) (upper_computed d _ c.requires s);
      lower_part = lower_computed d _ c.requires s;
    }
