-- Laws of the faults of a unit: in which order they stand, and where they are; and of the typed unit where there is none.
use Rattle.std.specs.Prelude.{◌≡◌, ◌⊎◌, ℕ, ◌<◌, ◌≤◌, [], length, Some, All, AllPairs}
use Rattle.pw_tree.specs.Declarations.{UntypedUnit}
use Rattle.pw_tree.specs.Placed.{IsParsed}
use Rattle.pw_tree.specs.Proper.{IsRead}
use Rattle.pw_tree.specs.WellTypedUnits.{IsWellTyped}
use Rattle.pw_types.specs.declared.rule.Rule.{Rule}
use Rattle.pw_types.specs.declared.rule.Rule.TheVariants as rules
use Rattle.pw_types.specs.declared.fault.Fault.{Fault}
use Rattle.pw_types.specs.Faults.{first_of}
use Rattle.pw_types.specs.Units.{typed_unit}
use Rattle.pw_types.specs.Nests.{Nested, walk, unit, faults_of}

-- ---- the order of faults

-- where a rule stands in the order in which they are judged where one phrase breaks several
abbrev pub rank : Rule → ℕ
rank rules.Unknown = 1
rank rules.Redeclared = 2
rank rules.Conflict = 3
rank rules.NotValue = 4
rank rules.Operands = 5
rank rules.ArgCount = 6
rank rules.ArgType = 7
rank rules.NotCallable = 8
rank rules.NotArray = 9
rank rules.NeedsIndex = 10
rank rules.AssignType = 11
rank rules.ReturnType = 12
rank rules.OutsideLoop = 13
rank rules.Initialiser = 14
rank rules.ArraySize = 15
rank rules.TooManyLocals = 16
rank rules.TooDeep = 17
rank rules.Reserved = 18
rank rules.TooManyParameters = 19

-- By the last token of the phrase. Of two phrases that end at one token, one stands within the other: the inner one's first.
-- For one phrase, by rule.
abbrev pub Precedes : Nested → Nested → Type 0
Precedes m n =
    (m.fault.at < n.fault.at)
    ⊎ ((m.fault.at ≡ n.fault.at) × ((n.depth < m.depth) ⊎ ((m.depth ≡ n.depth) × (rank m.fault.rule < rank n.fault.rule))))

-- ---- the laws

-- The faults of a unit that was read stand in the order of faults.
abbrev pub FaultsAscend : Type 0
FaultsAscend = (u : UntypedUnit) → IsParsed u → AllPairs Precedes (walk 0 (unit u))

-- So no other ends before the first of them.
abbrev pub FirstEndsFirst : Type 0
FirstEndsFirst =
    (u : UntypedUnit) (f : Fault) → IsParsed u → first_of (faults_of u) ≡ Some f → All (λ g. f.at ≤ g.at) (faults_of u)

-- They end at tokens of the unit.
abbrev pub FaultsAreWithin : Type 0
FaultsAreWithin =
    (u : UntypedUnit) → IsParsed u → All (λ f. f.at < length u.lines) (faults_of u)

-- The typed unit of a unit that was read and has no faults is well typed.
abbrev pub UnitsWithoutFaultsAreWellTyped : Type 0
UnitsWithoutFaultsAreWellTyped =
    (u : UntypedUnit) → IsRead u → faults_of u ≡ [] → IsWellTyped (typed_unit u)
