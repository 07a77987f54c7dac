-- The numbers of static definitions stand in their lists.
use Rattle.std.proofs.Common.{◌≡◌, ℕ, zero, suc, ◌+◌, ◌<◌, Bool, cond, List, [], ◌∷◌, length, take, Option, Some, None, refl, sym, ap, subst, ◌∙◌, arith}
use Rattle.std.specs.Prelude.{slice_get, slice_index, count_by}
use Rattle.std.specs.Option.{option_map, option_map_or}
use Rattle.std.proofs.lemmas.List.Sums.{sum_by-cons}
use Rattle.pw_base.specs.declared.kinds.Kind.{Kind}
use Rattle.pw_code.specs.declared.object.Object.{Object}
use Rattle.pw_place.specs.Places.{functions_in, variables_in}
use Rattle.pw_place.specs.Symbols.{first_static, static_functions, static_variables, static_definitions, static_function_number, static_variable_number}
use Rattle.pw_place.specs.Steps.NumberLists.{number_after, numbers_from, is_static_function, is_static_variable, static_in, unit_numbers, all_numbers, AreSymbolNumbers}
use Rattle.pw_place.specs.declared.symbol_numbers.UnitNumbers.{UnitNumbers}

-- A definition's number is the first one and how many static ones stand before it.
number_from : {A : Type 0} (p : A → Bool) (xs : List A) (first i : ℕ) → i < length xs →
    slice_index (numbers_from p first xs) i ≡ first + count_by p (take i xs)
number_from p [] first i h = absurd (omega arith)
number_from p (x ∷ xs) first zero h = omega arith
number_from p (x ∷ xs) first (suc i) h =
    let e = sum_by-cons (λ y. cond (p y) 1 0) x (take i xs) in
    let later : slice_index (numbers_from p (number_after first (p x)) xs) i ≡ first + cond (p x) 1 0 + count_by p (take i xs) =
    number_from p xs (number_after first (p x)) i (omega arith) in
    later ∙ omega (arith, e)

-- The numbers of a unit begin after those of the units before.
unit_at : (objects : List Object) (first unit : ℕ) →
    slice_get (all_numbers first objects) unit ≡ option_map (unit_numbers (first + static_definitions (take unit objects))) (slice_get objects unit)
unit_at [] first unit = refl
unit_at (o ∷ os) first zero =
    let e : first ≡ first + 0 = omega arith in
    ap (λ n. Some (unit_numbers n o)) e
unit_at (o ∷ os) first (suc unit) =
    let s = sum_by-cons static_in o (take unit os) in
    let e : first + static_in o + static_definitions (take unit os) ≡ first + static_definitions (o ∷ take unit os) = omega (arith, s) in
    unit_at os (first + static_in o) unit ∙ ap (λ n. option_map (unit_numbers n) (slice_get os unit)) e

module _ (kind : Kind) (objects : List Object) (units : List UnitNumbers) (first_external : ℕ)
    (numbered : AreSymbolNumbers kind objects units first_external) (unit : ℕ) where
  abbrev first : ℕ
  first = first_static kind + static_definitions (take unit objects)

  units_are : slice_get units unit ≡ option_map (unit_numbers first) (slice_get objects unit)
  units_are = ap (λ us. slice_get us unit) numbered.of_units ∙ unit_at objects (first_static kind) unit

  numbers_are : (u : UnitNumbers) → slice_get units unit ≡ Some u → (o : Object) → slice_get objects unit ≡ Some o → u ≡ unit_numbers first o
  numbers_are u h o e =
      let same : Some u ≡ Some (unit_numbers first o) = sym h ∙ units_are ∙ ap (option_map (unit_numbers first)) e in cc

  -- ---- functions

  function_by : (i : ℕ) (u : UnitNumbers) → slice_get units unit ≡ Some u → (o : Option Object) → slice_get objects unit ≡ o →
      i < length (option_map_or (λ (x : Object). x.funs) o []) →
      slice_index u.functions i ≡ first + static_functions (take i (option_map_or (λ (x : Object). x.funs) o []))
  function_by i u h None e l = absurd (omega arith)
  function_by i u h (Some o) e l =
      ap (λ (n : UnitNumbers). slice_index n.functions i) (numbers_are u h o e) ∙ number_from is_static_function o.funs first i l

  -- A unit's list has the numbers of its static functions.
  pub function_number : (i : ℕ) (u : UnitNumbers) → slice_get units unit ≡ Some u → i < length (functions_in objects unit) →
      slice_index u.functions i ≡ static_function_number kind objects unit i
  function_number i u h l = function_by i u h (slice_get objects unit) refl l

  -- ---- variables

  variable_by : (i : ℕ) (u : UnitNumbers) → slice_get units unit ≡ Some u → (o : Option Object) → slice_get objects unit ≡ o →
      i < length (option_map_or (λ (x : Object). x.vars) o []) →
      slice_index u.variables i
      ≡ first + static_functions (option_map_or (λ (x : Object). x.funs) o []) + static_variables (take i (option_map_or (λ (x : Object). x.vars) o []))
  variable_by i u h None e l = absurd (omega arith)
  variable_by i u h (Some o) e l =
      ap (λ (n : UnitNumbers). slice_index n.variables i) (numbers_are u h o e)
      ∙ number_from is_static_variable o.vars (first + static_functions o.funs) i l

  -- And those of its static variables.
  pub variable_number : (i : ℕ) (u : UnitNumbers) → slice_get units unit ≡ Some u → i < length (variables_in objects unit) →
      slice_index u.variables i ≡ static_variable_number kind objects unit i
  variable_number i u h l = variable_by i u h (slice_get objects unit) refl l

  -- ---- units that are not there

  no_object : slice_get units unit ≡ None → (o : Option Object) → slice_get objects unit ≡ o → o ≡ None
  no_object h None e = refl
  no_object h (Some o) e =
      let none : Option UnitNumbers = None in
      let there : none ≡ Some (unit_numbers first o) = sym h ∙ units_are ∙ ap (option_map (unit_numbers first)) e in cc

  -- A unit that has no list has no functions and no variables.
  pub no_function : (i : ℕ) → slice_get units unit ≡ None → i < length (functions_in objects unit) → ⊥
  no_function i h l =
      let l2 = subst (λ (o : Option Object). i < length (option_map_or (λ (x : Object). x.funs) o [])) (no_object h (slice_get objects unit) refl) l in
      omega (arith, l2)

  pub no_variable : (i : ℕ) → slice_get units unit ≡ None → i < length (variables_in objects unit) → ⊥
  no_variable i h l =
      let l2 = subst (λ (o : Option Object). i < length (option_map_or (λ (x : Object). x.vars) o [])) (no_object h (slice_get objects unit) refl) l in
      omega (arith, l2)
