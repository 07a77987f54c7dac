-- As many as were counted are unknown.
use Rattle.std.proofs.Common.{◌≡◌, replicate, None}
use Rattle.pw_place.proofs.name_kinds.unknown.Given as goal

abbrev pub invariant-loop-name : goal.invariant-loop-name
invariant-loop-name l = l.kinds ≡ replicate l._name None
