-- One name more.
use Rattle.std.proofs.Common.{◌++◌, ◌∷◌, [], ◌∙◌, sym, ap}
use Rattle.pw_place.proofs.Numbered.{take_got}
use Rattle.pw_place.proofs.merging.slot_names.Goals as goal

pub loop-n-preserved : goal.loop-n-preserved
loop-n-preserved c =
    c.in_ok-push.ensures.ok
    ∙ ap (λ names. names ++ c.in_ok-slot_name.field-0 ∷ []) c.loop-n.invariant
    ∙ sym (take_got c.args.places.now.slots c.loop-n.n _ c.in_ok-slot_name.ensures)
