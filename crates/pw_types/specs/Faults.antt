-- Lists of faults.
use Rattle.std.specs.Prelude.{ℕ, Bool, true, false, List, [], ◌∷◌, Option, Some, None}
use Rattle.pw_types.specs.declared.rule.Rule.{Rule}
use Rattle.pw_types.specs.declared.fault.Fault.{Fault}

-- the fault, where a rule is broken
abbrev pub broken : Rule → ℕ → Bool → List Fault
broken rule at true = record { rule = rule; at = at; name = None } ∷ []
broken rule at false = []

-- the same for a rule about a name
abbrev pub broken_by : Rule → ℕ → List ℕ → Bool → List Fault
broken_by rule at name true = record { rule = rule; at = at; name = Some name } ∷ []
broken_by rule at name false = []

-- the first of a list
abbrev pub first_of : List Fault → Option Fault
first_of [] = None
first_of (f ∷ fs) = Some f
