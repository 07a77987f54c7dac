-- The names of the entries so far that differ have joined.
use Rattle.std.proofs.Common.{◌≡◌, take, fold}
use Rattle.pw_place.specs.Steps.OtherTexts.{different_joined}
use Rattle.pw_place.proofs.other_texts.add_different.Given as goal

abbrev pub invariant-loop-n : goal.invariant-loop-n
invariant-loop-n l = l.names ≡ fold (different_joined l.externals.entries) l.fn.names (take l.n-index l.more)
