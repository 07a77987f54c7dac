-- None of the units so far has another text of the name.
use Rattle.std.proofs.Common.{◌≡◌, drop, find}
use Rattle.pw_place.specs.Names.{declared_names}
use Rattle.pw_place.specs.Steps.OtherTexts.{is_other}
use Rattle.pw_place.proofs.other_texts.other_entry.Given as goal

abbrev pub invariant-loop-object : goal.invariant-loop-object
invariant-loop-object l =
    find (is_other l.n) (declared_names (drop l.object-index l.objects)) ≡ find (is_other l.n) (declared_names l.objects)
