-- The types so far are those of the first parameters.
use Rattle.std.proofs.Common.{◌≡◌, map, take}
use Rattle.pw_types.proofs.declared.signature.Given as goal

abbrev pub invariant-loop-p : goal.invariant-loop-p
invariant-loop-p l = l.tys ≡ map (λ p. p.ty) (take l.p-index l.params)
