-- Definitions that are placed one after another stand at their places.
use Rattle.std.proofs.Common.{◌≡◌, ℕ, ◌+◌, Bool, true, if◌then◌else◌, List, [], ◌++◌, map, take, fold, sum_by, Some, slice_get, sym, ap, ◌∙◌, arith}
use Rattle.std.specs.Option.{option_map_or}
use Rattle.std.specs.List.{enumerate_from}
use Rattle.std.proofs.lemmas.List.Sums.{sum_by-append}
use Rattle.pw_base.specs.declared.kinds.Kind.{Kind}
use Rattle.pw_tree.specs.declared.tunit.TVar.{TVar}
use Rattle.pw_code.specs.declared.object.FunCode.{FunCode}
use Rattle.pw_code.specs.declared.object.Object.{Object}
use Rattle.pw_code.specs.Objects.{is_initialised}
use Rattle.pw_place.specs.Sizes.{function_bytes}
use Rattle.pw_place.specs.Places.{functions, variables, functions_in, variables_in, variables_before, initialised_size, uninitialised_size, slots_size, function_start, variable_start}
use Rattle.pw_place.specs.Steps.PlaceLists.{unit_places, all_places}
use Rattle.pw_place.specs.Steps.Running.{running, function_place, after_function, variable_place, after_variable, after_functions, places_of_unit, after_unit, first_places}
use Rattle.pw_place.specs.declared.placing.Next.{Next}
use Rattle.pw_place.proofs.Enumerated.{seen_at, all_seen, same_each}
use Rattle.pw_place.proofs.VariableParts.{initialised_part, other_part, initialised_is, others_are}
use Rattle.pw_place.proofs.Running.{moved, functions_passed, variables_passed, units_passed}

module _ (kind : Kind) (objects : List Object) (unit : ℕ) (o : Object) (at : slice_get objects unit ≡ Some o) where
  -- the places of this unit's first definitions
  here : Next
  here = fold after_unit (first_places kind objects) (take unit objects)

  abbrev reached : Next
  reached = moved (first_places kind objects) (sum_by function_bytes (functions (take unit objects))) (sum_by initialised_part (variables (take unit objects))) (sum_by other_part (variables (take unit objects)))

  -- the unit's own
  own_functions : functions_in objects unit ≡ o.funs
  own_functions = ap (λ it. option_map_or (λ o. o.funs) it []) at

  own_variables : variables_in objects unit ≡ o.vars
  own_variables = ap (λ it. option_map_or (λ o. o.vars) it []) at

  function_here : (n : Next) → n ≡ reached → (i : ℕ) (f : FunCode) →
      function_place (fold after_function n (take i o.funs)) f ≡ function_start kind objects unit i
  function_here n e i f =
      let passed = ap (λ m. m.function) (functions_passed (take i o.funs) n) in
      let from = ap (λ m. m.function) e in
      let parts = sum_by-append function_bytes (functions (take unit objects)) (take i o.funs) in
      let own : sum_by function_bytes (functions (take unit objects) ++ take i (functions_in objects unit)) ≡ sum_by function_bytes (functions (take unit objects) ++ take i o.funs) =
      ap (λ fs. sum_by function_bytes (functions (take unit objects) ++ take i fs)) own_functions in
      omega (arith, passed, from, parts, own)

  before : (part : TVar → ℕ) (i : ℕ) →
      sum_by part (variables_before objects unit i) ≡ sum_by part (variables (take unit objects)) + sum_by part (take i o.vars)
  before part i =
      ap (λ xs. sum_by part (variables (take unit objects) ++ take i xs)) own_variables
      ∙ sum_by-append part (variables (take unit objects)) (take i o.vars)

  -- The choice of the group a variable stands in.
  abbrev chosen : (initialised others : ℕ) → Bool → ℕ
  chosen initialised others b = if b then initialised else others

  variable_here : (n : Next) → n ≡ reached → (i : ℕ) (x : TVar) → slice_get o.vars i ≡ Some x →
      variable_place (fold after_variable (after_functions n o) (take i o.vars)) x ≡ variable_start kind objects unit i
  variable_here n e i x there =
      let m = after_functions n o in
      let entered = functions_passed o.funs n in
      let passed = variables_passed (take i o.vars) m in
      let first : (fold after_variable m (take i o.vars)).initialised ≡ slots_size kind objects + initialised_size (variables_before objects unit i) =
      let one = ap (λ m. m.initialised) passed in
      let two = ap (λ m. m.initialised) entered in
      let three = ap (λ m. m.initialised) e in
      let four = before initialised_part i in
      let five = initialised_is (variables_before objects unit i) in
      omega (arith, one, two, three, four, five) in
      let second : (fold after_variable m (take i o.vars)).others ≡ slots_size kind objects + initialised_size (variables objects) + uninitialised_size (variables_before objects unit i) =
      let one = ap (λ m. m.others) passed in
      let two = ap (λ m. m.others) entered in
      let three = ap (λ m. m.others) e in
      let four = before other_part i in
      let five = others_are (variables_before objects unit i) in
      omega (arith, one, two, three, four, five) in
      let kind_of : is_initialised x ≡ option_map_or is_initialised (slice_get (variables_in objects unit) i) true =
      sym (ap (λ xs. option_map_or is_initialised (slice_get xs i) true) own_variables ∙ ap (λ it. option_map_or is_initialised it true) there) in
      (λ j. chosen (first j) (second j) (kind_of j))

  -- The unit's definitions stand at their places.
  pub unit_placed : places_of_unit (fold after_unit (first_places kind objects) (take unit objects)) o ≡ unit_places kind objects (unit, o)
  unit_placed =
      let n = fold after_unit (first_places kind objects) (take unit objects) in
      let e = units_passed (take unit objects) (first_places kind objects) in
      let fs : running function_place after_function n o.funs ≡ map (λ f. function_start kind objects unit f.0) (enumerate_from 0 o.funs) =
      all_seen function_place after_function n o.funs
      ∙ same_each (seen_at function_place after_function n o.funs) (λ f. function_start kind objects unit f.0) o.funs (λ i f there. function_here n e i f) in
      let xs : running variable_place after_variable (after_functions n o) o.vars ≡ map (λ x. variable_start kind objects unit x.0) (enumerate_from 0 o.vars) =
      all_seen variable_place after_variable (after_functions n o) o.vars
      ∙ same_each (seen_at variable_place after_variable (after_functions n o) o.vars) (λ x. variable_start kind objects unit x.0) o.vars (λ i x there. variable_here n e i x there) in
      (λ j. record { functions = fs j; variables = xs j })

-- All definitions stand at their places.
pub all_placed : (kind : Kind) (objects : List Object) →
    running places_of_unit after_unit (first_places kind objects) objects ≡ all_places kind objects
all_placed kind objects =
    all_seen places_of_unit after_unit (first_places kind objects) objects
    ∙ same_each (seen_at places_of_unit after_unit (first_places kind objects) objects) (unit_places kind objects) objects (λ unit o at. unit_placed kind objects unit o at)
