-- The entries so far have joined.
use Rattle.std.proofs.Common.{◌≡◌, map, take}
use Rattle.pw_place.specs.Steps.ExternalLists.{entries_joined}
use Rattle.pw_place.proofs.externals.add_all.Given as goal

abbrev pub invariant-loop-n : goal.invariant-loop-n
invariant-loop-n l = record {
  same : l.names ≡ map (λ n. n.name) l.entries;
  joined : l.entries ≡ entries_joined l.fn.entries (take l.n-index l.more);
}
