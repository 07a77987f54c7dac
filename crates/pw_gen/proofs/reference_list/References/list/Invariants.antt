-- The list so far is of the first references.
use Rattle.std.proofs.Common.{◌≡◌, map, take}
use Rattle.pw_gen.specs.declared.reference_list.Key.{Key}
use Rattle.pw_gen.proofs.reference_list.References.list.Given as goal

abbrev pub invariant-loop-key : goal.invariant-loop-key
invariant-loop-key l = l.list ≡ map (λ (key : Key). key.to) (take l.key-index l.keys)
