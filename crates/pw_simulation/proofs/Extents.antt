-- Where the parts of a project that can be run stand: functions in their module's text, slots and variables in its data.
use Rattle.std.proofs.Common.{◌≡◌, ℕ, suc, ◌+◌, ◌*◌, ◌<◌, ◌≤◌, Bool, true, false, List, [], ◌∷◌, length, filter, Option, Some, None, refl, sym, ◌∙◌, ap, arith, not, cond}
use Rattle.std.specs.Prelude.{slice_get, sum_by, option_and_then, bytes_eq}
use Rattle.std.specs.List.{prefix_len, list_any}
use Rattle.std.specs.Option.{option_map_or, is_some, is_none}
use Rattle.std.proofs.lemmas.List.Sums.{sum_by-append}
use Rattle.pw_tree.specs.declared.tunit.TVar.{TVar}
use Rattle.pw_tree.specs.declared.tunit.Init.{Init}
use Rattle.pw_tree.specs.Units.{Function, TypedUnit}
use Rattle.pw_tree.specs.Names.{Project, Definition, unit_at, function_at, variable_at}
use Rattle.pw_tree.specs.WellTypedUnits.{room}
use Rattle.pw_code.specs.Items.{size}
use Rattle.pw_code.specs.FunctionCode.{function_words}
use Rattle.pw_code.specs.Objects.{is_initialised, is_uninitialised}
use Rattle.pw_agree.specs.Placing.{units_of, text_of, code_before_functions, words_of_module, function_address, elements_of, variables_of_units}
use Rattle.pw_simulation.proofs.Joined.{got_below, sum_more}
use Rattle.pw_simulation.proofs.TwoLevels.{total, place, IsItem, place_end, place_any}

-- ---- what definitions are

-- a unit of a project
pub record IsUnitAt (project : Project) (d : Definition) (unit : TypedUnit) : Type 0 where
  pub below : d.in_module < length project
  pub there : slice_get (units_of project d.in_module) d.in_unit ≡ Some unit

unit_by : (project : Project) (d : Definition) (unit : TypedUnit) (o : Option (List TypedUnit)) → slice_get project d.in_module ≡ o
    → option_and_then (λ units. slice_get units d.in_unit) o ≡ Some unit → IsUnitAt project d unit
unit_by project d unit None e h = cc
unit_by project d unit (Some units) e h =
    record { below = got_below project d.in_module units e; there = ap (λ o. slice_get (option_map_or (λ (us : List TypedUnit). us) o []) d.in_unit) e ∙ h }

pub unit_is : (project : Project) (d : Definition) (unit : TypedUnit) → unit_at project d ≡ Some unit → IsUnitAt project d unit
unit_is project d unit h = unit_by project d unit (slice_get project d.in_module) refl h

unit_from : (d : Definition) (unit : TypedUnit) (o : Option (List TypedUnit)) → slice_get (option_map_or (λ (us : List TypedUnit). us) o []) d.in_unit ≡ Some unit
    → option_and_then (λ units. slice_get units d.in_unit) o ≡ Some unit
unit_from d unit None h = cc
unit_from d unit (Some units) h = h

pub unit_found : (project : Project) (d : Definition) (unit : TypedUnit) → slice_get (units_of project d.in_module) d.in_unit ≡ Some unit → unit_at project d ≡ Some unit
unit_found project d unit h = unit_from d unit (slice_get project d.in_module) h

-- a function of a unit of a project, and a variable
pub record IsFunctionAt (project : Project) (d : Definition) (f : Function) : Type 0 where
  pub unit : TypedUnit
  pub unit_there : unit_at project d ≡ Some unit
  pub there : slice_get unit.functions d.number ≡ Some f

pub record IsVariableAt (project : Project) (d : Definition) (x : TVar) : Type 0 where
  pub unit : TypedUnit
  pub unit_there : unit_at project d ≡ Some unit
  pub there : slice_get unit.variables d.number ≡ Some x

function_by : (project : Project) (d : Definition) (f : Function) (o : Option TypedUnit) → unit_at project d ≡ o
    → option_and_then (λ (unit : TypedUnit). slice_get unit.functions d.number) o ≡ Some f → IsFunctionAt project d f
function_by project d f None e h = cc
function_by project d f (Some unit) e h = record { unit = unit; unit_there = e; there = h }

pub function_is : (project : Project) (d : Definition) (f : Function) → function_at project d ≡ Some f → IsFunctionAt project d f
function_is project d f h = function_by project d f (unit_at project d) refl h

variable_by : (project : Project) (d : Definition) (x : TVar) (o : Option TypedUnit) → unit_at project d ≡ o
    → option_and_then (λ (unit : TypedUnit). slice_get unit.variables d.number) o ≡ Some x → IsVariableAt project d x
variable_by project d x None e h = cc
variable_by project d x (Some unit) e h = record { unit = unit; unit_there = e; there = h }

pub variable_is : (project : Project) (d : Definition) (x : TVar) → variable_at project d ≡ Some x → IsVariableAt project d x
variable_is project d x h = variable_by project d x (unit_at project d) refl h

-- ---- functions

pub function_item : (project : Project) (d : Definition) (f : Function) → IsFunctionAt project d f
    → IsItem (λ (unit : TypedUnit). unit.functions) function_words (units_of project d.in_module) d.in_unit d.number f
function_item project d f h = let u = unit_is project d h.unit h.unit_there in record { unit = h.unit; unit_there = u.there; there = h.there }

-- how many words the code before the functions is, and all functions are
abbrev pub first_words : ℕ → ℕ
first_words m = size (code_before_functions m)

abbrev pub words_before_function : Project → Definition → ℕ
words_before_function project d = place (λ (unit : TypedUnit). unit.functions) function_words (units_of project d.in_module) d.in_unit d.number

pub address_is : (project : Project) (d : Definition) → function_address project d ≡ text_of d.in_module + 4 * (first_words d.in_module + words_before_function project d)
address_is project d = omega arith

pub words_are : (project : Project) (m : ℕ) → words_of_module project m ≡ first_words m + total (λ (unit : TypedUnit). unit.functions) function_words (units_of project m)
words_are project m = refl

-- a function stands in its module's text
pub function_ends : (project : Project) (d : Definition) (f : Function) → function_at project d ≡ Some f
    → function_address project d + 4 * function_words f ≤ text_of d.in_module + 4 * words_of_module project d.in_module
function_ends project d f h =
    let r = place_end (λ (unit : TypedUnit). unit.functions) function_words (units_of project d.in_module) d.in_unit d.number f (function_item project d f (function_is project d f h)) in
    omega (arith, address_is project d, words_are project d.in_module)

-- and its address does, even if there is no such function
pub function_within : (project : Project) (d : Definition) → function_address project d ≤ text_of d.in_module + 4 * words_of_module project d.in_module
function_within project d =
    let r = place_any (λ (unit : TypedUnit). unit.functions) function_words (units_of project d.in_module) d.in_unit d.number in
    omega (arith, address_is project d, words_are project d.in_module)

-- ---- slots

pub first_at_most : {X : Type 0} (test : X → Bool) (xs : List X) → prefix_len test xs ≤ length xs
first_at_most test [] = omega arith
first_at_most test (x ∷ xs) = by_test (test x) (first_at_most test xs)
  where
    by_test : (t : Bool) → prefix_len test xs ≤ length xs → cond t (1 + prefix_len test xs) 0 ≤ suc (length xs)
    by_test true h = omega arith
    by_test false h = omega arith

-- a name that is found stands before the end
pub found_before : {X : Type 0} (test : X → Bool) (xs : List X) → list_any test xs ≡ true → prefix_len (λ x. not (test x)) xs < length xs
found_before test [] h = cc
found_before test (x ∷ xs) h = by_test (test x) refl h (found_before test xs)
  where
    by_test : (t : Bool) → test x ≡ t → Rattle.std.specs.Prelude.◌||◌ t (list_any test xs) ≡ true → (list_any test xs ≡ true → prefix_len (λ y. not (test y)) xs < length xs)
        → prefix_len (λ y. not (test y)) (x ∷ xs) < suc (length xs)
    by_test true e h rest = rw e (omega arith)
    by_test false e h rest = let r = rest h in rw e (omega arith)

-- ---- variables

-- how many elements a variable counts for, where a test asks for it
abbrev pub weight_if : (TVar → Bool) → TVar → ℕ
weight_if test x = cond (test x) (room x.count) 0

pub elements_of_filter : (test : TVar → Bool) (xs : List TVar) → elements_of (filter test xs) ≡ sum_by (weight_if test) xs
elements_of_filter test [] = refl
elements_of_filter test (x ∷ xs) = by_test (test x) refl (elements_of_filter test xs) ∙ sym (sum_more (weight_if test) x xs)
  where
    by_test : (t : Bool) → test x ≡ t → elements_of (filter test xs) ≡ sum_by (weight_if test) xs
        → elements_of (filter test (x ∷ xs)) ≡ weight_if test x + sum_by (weight_if test) xs
    by_test true e h = rw e (sum_more (λ (y : TVar). room y.count) x (filter test xs) ∙ ap (λ n. room x.count + n) h)
    by_test false e h = rw e (h ∙ omega arith)

pub elements_of_units : (test : TVar → Bool) (units : List TypedUnit) → elements_of (variables_of_units test units) ≡ total (λ (unit : TypedUnit). unit.variables) (weight_if test) units
elements_of_units test [] = refl
elements_of_units test (unit ∷ units) =
    sum_by-append (λ (y : TVar). room y.count) (filter test unit.variables) (variables_of_units test units)
    ∙ omega (arith, elements_of_filter test unit.variables, elements_of_units test units, sum_more (λ (v : TypedUnit). sum_by (weight_if test) v.variables) unit units)

-- a variable has an initialiser or none
weights_add : (x : TVar) (o : Option (List Init)) → cond (is_some o) (room x.count) 0 + cond (is_none o) (room x.count) 0 ≡ room x.count
weights_add x None = omega arith
weights_add x (Some items) = omega arith

variables_add : (xs : List TVar) → sum_by (weight_if is_initialised) xs + sum_by (weight_if is_uninitialised) xs ≡ elements_of xs
variables_add [] = refl
variables_add (x ∷ xs) =
    omega (arith, sum_more (weight_if is_initialised) x xs, sum_more (weight_if is_uninitialised) x xs, sum_more (λ (y : TVar). room y.count) x xs, weights_add x x.init, variables_add xs)

pub totals_add : (units : List TypedUnit) → total (λ (unit : TypedUnit). unit.variables) (weight_if is_initialised) units + total (λ (unit : TypedUnit). unit.variables) (weight_if is_uninitialised) units
    ≡ sum_by (λ (unit : TypedUnit). elements_of unit.variables) units
totals_add [] = refl
totals_add (unit ∷ units) =
    omega (
      arith,
      sum_more (λ (v : TypedUnit). sum_by (weight_if is_initialised) v.variables) unit units,
      sum_more (λ (v : TypedUnit). sum_by (weight_if is_uninitialised) v.variables) unit units,
      sum_more (λ (v : TypedUnit). elements_of v.variables) unit units,
      variables_add unit.variables,
      totals_add units,
    )
