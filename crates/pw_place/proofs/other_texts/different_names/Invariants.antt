-- The names of the units so far that differ have joined.
use Rattle.std.proofs.Common.{◌≡◌, [], take, fold}
use Rattle.pw_place.specs.Steps.OtherTexts.{unit_different}
use Rattle.pw_place.proofs.other_texts.different_names.Given as goal

abbrev pub invariant-loop-object : goal.invariant-loop-object
invariant-loop-object l = l.names ≡ fold (unit_different l.externals.entries) [] (take l.object-index l.objects)
