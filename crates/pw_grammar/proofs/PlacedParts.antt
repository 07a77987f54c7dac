-- The trees of parameters and of initialisers stand in their tokens.
use Rattle.std.proofs.Common.{◌≡◌, ℕ, suc, ◌+◌, ◌<◌, ◌≤◌, [], ◌∷◌, ◌++◌, length, arith}
use Rattle.std.proofs.lemmas.List.{length-append}
use Rattle.pw_grammar.specs.Declarations.{spelled_parameter, MoreParameters, ParametersDerivation, none, some, spelled_more_parameters, spelled_parameters, more_parameters_of, parameters_of, spelled_element, MoreElements, comma, spelled_more_elements, more_elements_of, VariableDerivation, scalar, scalar_set, array, array_set, spelled_variable, extent, elements_of}
use Rattle.pw_grammar.specs.Declarations as phrase
use Rattle.pw_grammar.proofs.Lengths.{parameter_length, element_length}
use Rattle.pw_tree.specs.Placed.{AreParametersPlaced, AreElementsPlaced, IsInitialiserPlaced}

-- ---- parameters

more_parameters_stand : (at low high : ℕ) (ps : MoreParameters) → low ≤ suc at →
    at + length (spelled_more_parameters ps) ≤ suc high
    → AreParametersPlaced low high (more_parameters_of at ps)
unfolding spelled_more_parameters more_parameters_of AreParametersPlaced
more_parameters_stand at low high phrase.end l h = tt
more_parameters_stand at low high (phrase.more t p ps) l h =
    let n : length (spelled_parameter p ++ spelled_more_parameters ps) ≡ length (spelled_parameter p) + length (spelled_more_parameters ps) =
    length-append (spelled_parameter p) (spelled_more_parameters ps) in
    let f : 0 < length (spelled_parameter p) = parameter_length p in (
      l,
      omega arith,
      omega arith,
      more_parameters_stand (suc at + length (spelled_parameter p)) _ high ps (omega arith) (omega arith),
    )

pub parameters_stand : (at low high : ℕ) (ps : ParametersDerivation) → low ≤ at → at + length (spelled_parameters ps) ≤ suc high
    → AreParametersPlaced low high (parameters_of at ps)
unfolding AreParametersPlaced
parameters_stand at low high (none t) l h = tt
parameters_stand at low high (some p ps) l h =
    let n : length (spelled_parameter p ++ spelled_more_parameters ps) ≡ length (spelled_parameter p) + length (spelled_more_parameters ps) =
    length-append (spelled_parameter p) (spelled_more_parameters ps) in
    let f : 0 < length (spelled_parameter p) = parameter_length p in (
      l,
      omega arith,
      omega arith,
      more_parameters_stand (at + length (spelled_parameter p)) _ high ps (omega arith) (omega arith),
    )

-- ---- initialisers

more_elements_stand : (at low high : ℕ) (xs : MoreElements) → low ≤ suc at → at + length (spelled_more_elements xs) ≤ suc high
    → AreElementsPlaced low high (more_elements_of at xs)
unfolding spelled_more_elements more_elements_of AreElementsPlaced
more_elements_stand at low high phrase.end l h = tt
more_elements_stand at low high (comma t) l h = tt
more_elements_stand at low high (phrase.more t x xs) l h =
    let n : length (spelled_element x ++ spelled_more_elements xs) ≡ length (spelled_element x) + length (spelled_more_elements xs) =
    length-append (spelled_element x) (spelled_more_elements xs) in
    let f : 0 < length (spelled_element x) = element_length x in (
      l,
      omega arith,
      omega arith,
      more_elements_stand (suc at + length (spelled_element x)) _ high xs (omega arith) (omega arith),
    )

-- the variable's part begins at `at`, after the name
pub variable_stands : (at low high : ℕ) (v : VariableDerivation) → low ≤ at + extent v → at + length (spelled_variable v) ≤ high
    → IsInitialiserPlaced low high (elements_of at v)
unfolding AreElementsPlaced
variable_stands at low high scalar l h = tt
variable_stands at low high (scalar_set q x) l h = let f : 0 < length (spelled_element x) = element_length x in (omega arith, omega arith, omega arith, tt)
variable_stands at low high (array o n c) l h = tt
variable_stands at low high (array_set o n c q b x xs e) l h =
    let f : 0 < length (spelled_element x) = element_length x in
    let n : length (spelled_element x ++ (spelled_more_elements xs ++ e ∷ [])) ≡ length (spelled_element x) + (length (spelled_more_elements xs) + 1) =
    omega (arith, length-append (spelled_element x) (spelled_more_elements xs ++ e ∷ []), length-append (spelled_more_elements xs) (e ∷ [])) in
    (omega arith, omega arith, omega arith, more_elements_stand (at + 5 + length (spelled_element x)) _ high xs (omega arith) (omega arith))

pub extent_within : (v : VariableDerivation) → extent v ≤ length (spelled_variable v)
extent_within scalar = omega arith
extent_within (scalar_set q x) = omega arith
extent_within (array o n c) = omega arith
extent_within (array_set o n c q b x xs e) = omega arith
