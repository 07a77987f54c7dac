-- The kinds are those among the definitions so far.
use Rattle.std.proofs.Common.{◌≡◌, take}
use Rattle.pw_place.specs.Steps.NameKinds.{kinds_among}
use Rattle.pw_place.proofs.name_kinds.name_kinds.Given as goal

abbrev pub invariant-loop-s : goal.invariant-loop-s
invariant-loop-s l = l.kinds ≡ kinds_among (take l.s-index l.defined) l.externals.entries
