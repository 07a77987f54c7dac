-- What is left are as much the same as the whole.
use Rattle.std.proofs.Common.{◌≡◌, map, length}
use Rattle.pw_types.specs.Declarations.{same_types}
use Rattle.pw_types.proofs.same.have_types.Given as goal

abbrev pub invariant-loop-left : goal.invariant-loop-left
invariant-loop-left l = same_types l.tys (map (λ p. p.ty) l.params) ≡ same_types l.left (map (λ p. p.ty) l.right)

abbrev pub decreases-loop-left : goal.decreases-loop-left
decreases-loop-left l = length l.left
