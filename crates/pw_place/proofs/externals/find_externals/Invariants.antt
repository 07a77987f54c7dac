-- The entries of the units so far have joined.
use Rattle.std.proofs.Common.{◌≡◌, [], map, take, fold}
use Rattle.pw_place.specs.Steps.ExternalLists.{unit_joined}
use Rattle.pw_place.proofs.externals.find_externals.Given as goal

abbrev pub invariant-loop-object : goal.invariant-loop-object
invariant-loop-object l = record {
  same : l.names ≡ map (λ n. n.name) l.entries;
  joined : l.entries ≡ fold unit_joined [] (take l.object-index l.objects);
}
