-- The first fault of a unit that was read stands at one of its tokens.
use Rattle.std.proofs.Common.{◌≡◌, ◌<◌, List, [], ◌∷◌, length, Some, subst, arith}
use Rattle.std.specs.Prelude.{All}
use Rattle.pw_tree.specs.Declarations.{UntypedUnit}
use Rattle.pw_tree.specs.Placed.{IsParsed}
use Rattle.pw_types.specs.declared.fault.Fault.{Fault}
use Rattle.pw_types.specs.Faults.{first_of}
use Rattle.pw_types.specs.Nests.{faults_of}
use Rattle.pw_types.proofs.AscendingFaults.{faults_are_within}

-- what holds of all holds of the first
of_first : (P : Fault → Type 0) (fs : List Fault) (f : Fault) → All P fs → first_of fs ≡ Some f → P f
of_first P [] f all is = cc
of_first P (g ∷ gs) f all is = let same : g ≡ f = cc in subst P same (all 0 g (omega arith))

pub within : (unit : UntypedUnit) (f : Fault) → IsParsed unit → first_of (faults_of unit) ≡ Some f → f.at < length unit.lines
within unit f written first =
    of_first (λ g. g.at < length unit.lines) (faults_of unit) f (faults_are_within unit written) first
