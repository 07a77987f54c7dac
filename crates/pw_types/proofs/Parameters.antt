-- The faults of a prototype's parameters are those by their numbers.
use Rattle.std.proofs.Common.{◌≡◌, ℕ, suc, ◌+◌, ◌<◌, ◌≤◌, Bool, false, List, [], ◌∷◌, ◌++◌, length, Option, Some, None, refl, arith, length-append}
use Rattle.std.proofs.lemmas.Bool.Decides.{nat_tests}
use Rattle.std.specs.Prelude.{nat_le}
use Rattle.pw_tree.specs.declared.decl.Param.{Param}
use Rattle.pw_types.specs.declared.names.Local.{Local}
use Rattle.pw_types.specs.declared.rule.Rule.TheVariants as rules
use Rattle.pw_types.specs.Faults.{broken}
use Rattle.pw_types.proofs.Empty.{left_empty, right_empty}
use Rattle.pw_types.specs.Declarations.{faults_of_parameter_name, local_of}
use Rattle.pw_types.specs.Steps.UnitFaults.{faults_of_parameters}
use Rattle.pw_types.specs.Steps.CheckingDeclarations.{faults_by_number}

one_name : (number : ℕ) (before : List Local) (at : ℕ) (name : Option (List ℕ))
    → faults_of_parameter_name false number before at name ≡ faults_of_parameter_name false 0 [] at name
one_name number before at None = refl
one_name number before at (Some name) = refl

one_longer : (before : List Local) (l : Local) → length (before ++ l ∷ []) ≡ suc (length before)
one_longer before l = omega (arith, length-append before (l ∷ []))

pub by_number : (before : List Local) (ps : List Param)
    → faults_of_parameters false before ps ≡ faults_by_number (length before) ps
unfolding faults_of_parameters faults_by_number
by_number before [] = refl
by_number before (p ∷ ps) =
    let later = by_number (before ++ local_of (length before) p ∷ []) ps in
    let longer = one_longer before (local_of (length before) p) in
    rw (one_name (length before) before p.last p.name, later, longer) refl

-- ---- how many there are

not_many : (at n : ℕ) → broken rules.TooManyParameters at (nat_le 6 n) ≡ [] → n < 6
not_many at n none = grind (arith, nat_tests)

-- a function without faults of its parameters has at most 6
pub few_parameters : (is_definition : Bool) (before : List Local) (ps : List Param)
    → length before ≤ 6 → faults_of_parameters is_definition before ps ≡ [] → length before + length ps ≤ 6
unfolding faults_of_parameters
few_parameters is_definition before [] few none = omega arith
few_parameters is_definition before (p ∷ ps) few none =
    let others = faults_of_parameters is_definition (before ++ local_of (length before) p ∷ []) ps in
    let limit = broken rules.TooManyParameters p.last (nat_le 6 (length before)) in
    let after : limit ++ others ≡ [] = right_empty (faults_of_parameter_name is_definition (length before) before p.last p.name) (limit ++ others) none in
    let here : length before < 6 = not_many p.last (length before) (left_empty limit others after) in
    let longer = one_longer before (local_of (length before) p) in
    let later : length (before ++ local_of (length before) p ∷ []) + length ps ≤ 6 = few_parameters is_definition (before ++ local_of (length before) p ∷ []) ps (omega arith) (right_empty limit others after) in
    omega arith
