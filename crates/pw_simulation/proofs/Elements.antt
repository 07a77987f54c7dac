-- Where the elements of variables stand in their module's data: each within it, and different ones at different places.
use Rattle.std.proofs.Common.{◌≡◌, ℕ, ◌+◌, ◌<◌, ◌≤◌, Bool, true, false, List, [], take, filter, Option, Some, None, refl, ◌∙◌, ap, arith, cond, not}
use Rattle.std.specs.Prelude.{slice_get, sum_by}
use Rattle.std.specs.Option.{option_map_or, is_some, is_none}
use Rattle.std.proofs.lemmas.List.Sums.{sum_by-append}
use Rattle.pw_tree.specs.declared.tunit.TVar.{TVar}
use Rattle.pw_tree.specs.declared.tunit.Init.{Init}
use Rattle.pw_tree.specs.Units.{TypedUnit}
use Rattle.pw_tree.specs.Names.{Project, Definition, variable_at}
use Rattle.pw_tree.specs.WellTypedUnits.{room}
use Rattle.pw_code.specs.Objects.{is_initialised, is_uninitialised}
use Rattle.pw_agree.specs.Placing.{units_of, elements_of, variables_of_units, variables_before, elements_before, definition_is_initialised}
use Rattle.pw_simulation.proofs.TwoLevels.{total, place, IsItem, place_end, place_any, items_differ}
use Rattle.pw_simulation.proofs.Extents.{unit_is, variable_is, weight_if, elements_of_filter, elements_of_units, totals_add}

abbrev variables_in : TypedUnit → List TVar
variables_in unit = unit.variables

-- the elements of the variables before one, and of all, among those for which a test holds
abbrev pub place_if : (TVar → Bool) → Project → Definition → ℕ
place_if test project d = place variables_in (weight_if test) (units_of project d.in_module) d.in_unit d.number

abbrev pub total_if : (TVar → Bool) → Project → ℕ → ℕ
total_if test project m = total variables_in (weight_if test) (units_of project m)

-- all elements of a module
abbrev pub elements_in : Project → ℕ → ℕ
elements_in project m = sum_by (λ (unit : TypedUnit). elements_of unit.variables) (units_of project m)

before_if : (test : TVar → Bool) (project : Project) (d : Definition) → elements_of (variables_before test project d) ≡ place_if test project d
before_if test project d =
    sum_by-append (λ (y : TVar). room y.count) (variables_of_units test (take d.in_unit (units_of project d.in_module))) (filter test (take d.number (option_map_or variables_in (slice_get (units_of project d.in_module) d.in_unit) [])))
    ∙ omega (arith, elements_of_units test (take d.in_unit (units_of project d.in_module)), elements_of_filter test (take d.number (option_map_or variables_in (slice_get (units_of project d.in_module) d.in_unit) [])))

-- how many elements stand before a variable
abbrev pub before_by : Bool → Project → Definition → ℕ
before_by t project d = cond t (place_if is_initialised project d) (total_if is_initialised project d.in_module + place_if is_uninitialised project d)

pub before_is : (project : Project) (d : Definition) (t : Bool) → definition_is_initialised project d ≡ t → elements_before project d ≡ before_by t project d
before_is project d true e = rw e (before_if is_initialised project d)
before_is project d false e = rw e (omega (arith, before_if is_uninitialised project d, elements_of_units is_initialised (units_of project d.in_module)))

-- a variable as an item of its module
pub variable_item : (test : TVar → Bool) (project : Project) (d : Definition) (x : TVar) → variable_at project d ≡ Some x
    → IsItem variables_in (weight_if test) (units_of project d.in_module) d.in_unit d.number x
variable_item test project d x h =
    let v = variable_is project d x h in
    let u = unit_is project d v.unit v.unit_there in record { unit = v.unit; unit_there = u.there; there = v.there }

pub initialised_as : (project : Project) (d : Definition) (x : TVar) → variable_at project d ≡ Some x → definition_is_initialised project d ≡ is_initialised x
initialised_as project d x h =
    let v = variable_is project d x h in
    let u = unit_is project d v.unit v.unit_there in
    ap (λ o. option_map_or (λ (unit : TypedUnit). option_map_or is_initialised (slice_get unit.variables d.number) true) o true) u.there
    ∙ ap (λ o. option_map_or is_initialised o true) v.there

-- the place of a variable among the elements of its module, by whether it has an initialiser
pub record IsPlaced (project : Project) (d : Definition) (x : TVar) (t : Bool) : Type 0 where
  pub initialised : is_initialised x ≡ t
  pub other : is_uninitialised x ≡ not t
  pub before : elements_before project d ≡ before_by t project d

other_of : (o : Option (List Init)) (t : Bool) → is_some o ≡ t → is_none o ≡ not t
other_of None true h = cc
other_of None false h = refl
other_of (Some items) true h = refl
other_of (Some items) false h = cc

pub placed : (project : Project) (d : Definition) (x : TVar) → variable_at project d ≡ Some x → (t : Bool) → is_initialised x ≡ t → IsPlaced project d x t
placed project d x h t e = record {
  initialised = e;
  other = other_of x.init t e;
  before = before_is project d t (initialised_as project d x h ∙ e);
}

pub sum_is : (project : Project) (m : ℕ) → total_if is_initialised project m + total_if is_uninitialised project m ≡ elements_in project m
sum_is project m = totals_add (units_of project m)

ends_by : (project : Project) (d : Definition) (x : TVar) → variable_at project d ≡ Some x → (t : Bool) → IsPlaced project d x t
    → elements_before project d + room x.count ≤ elements_in project d.in_module
ends_by project d x h true p =
    let r = place_end variables_in (weight_if is_initialised) (units_of project d.in_module) d.in_unit d.number x (variable_item is_initialised project d x h) in
    let w : weight_if is_initialised x ≡ room x.count = rw p.initialised refl in
    let b = p.before in omega (arith, sum_is project d.in_module)
ends_by project d x h false p =
    let r = place_end variables_in (weight_if is_uninitialised) (units_of project d.in_module) d.in_unit d.number x (variable_item is_uninitialised project d x h) in
    let w : weight_if is_uninitialised x ≡ room x.count = rw p.other refl in
    let b = p.before in omega (arith, sum_is project d.in_module)

-- a variable's elements are among those of its module
pub variable_ends : (project : Project) (d : Definition) (x : TVar) → variable_at project d ≡ Some x → elements_before project d + room x.count ≤ elements_in project d.in_module
variable_ends project d x h = ends_by project d x h (is_initialised x) (placed project d x h (is_initialised x) refl)

within_by : (project : Project) (d : Definition) (t : Bool) → before_by t project d ≤ elements_in project d.in_module
within_by project d true =
    let r = place_any variables_in (weight_if is_initialised) (units_of project d.in_module) d.in_unit d.number in omega (arith, sum_is project d.in_module)
within_by project d false =
    let r = place_any variables_in (weight_if is_uninitialised) (units_of project d.in_module) d.in_unit d.number in omega (arith, sum_is project d.in_module)

-- and so many are there in any case
pub variable_within : (project : Project) (d : Definition) → elements_before project d ≤ elements_in project d.in_module
variable_within project d =
    let r = within_by project d (definition_is_initialised project d) in
    let e = before_is project d (definition_is_initialised project d) refl in omega arith

-- ---- two elements

abbrev pub definition_at : (m u i : ℕ) → Definition
definition_at m u i = record { in_module = m; in_unit = u; number = i }

pub one_definition : (m u i n v j : ℕ) → m ≡ n → u ≡ v → i ≡ j → definition_at m u i ≡ definition_at n v j
one_definition m u i n v j a b c = cc

-- one element of one variable
pub record IsOneElement (d e : Definition) (p q : ℕ) : Type 0 where
  pub definitions : d ≡ e
  pub elements : p ≡ q

differ_by : (project : Project) (m u i v j : ℕ) (x y : TVar) (p q : ℕ) → variable_at project (definition_at m u i) ≡ Some x → variable_at project (definition_at m v j) ≡ Some y
    → p < room x.count → q < room y.count → (s t : Bool) → IsPlaced project (definition_at m u i) x s → IsPlaced project (definition_at m v j) y t
    → elements_before project (definition_at m u i) + p ≡ elements_before project (definition_at m v j) + q → IsOneElement (definition_at m u i) (definition_at m v j) p q
differ_by project m u i v j x y p q hx hy hp hq true true a b h =
    let wx : weight_if is_initialised x ≡ room x.count = rw a.initialised refl in
    let wy : weight_if is_initialised y ≡ room y.count = rw b.initialised refl in
    let pa = a.before in
    let pb = b.before in
    let r = items_differ variables_in (weight_if is_initialised) (units_of project m) u i v j p q x y (variable_item is_initialised project (definition_at m u i) x hx) (variable_item is_initialised project (definition_at m v j) y hy) (omega arith) (omega arith) (omega arith) in
    record { definitions = one_definition m u i m v j refl r.lists r.items; elements = r.parts }
differ_by project m u i v j x y p q hx hy hp hq false false a b h =
    let wx : weight_if is_uninitialised x ≡ room x.count = rw a.other refl in
    let wy : weight_if is_uninitialised y ≡ room y.count = rw b.other refl in
    let pa = a.before in
    let pb = b.before in
    let r = items_differ variables_in (weight_if is_uninitialised) (units_of project m) u i v j p q x y (variable_item is_uninitialised project (definition_at m u i) x hx) (variable_item is_uninitialised project (definition_at m v j) y hy) (omega arith) (omega arith) (omega arith) in
    record { definitions = one_definition m u i m v j refl r.lists r.items; elements = r.parts }
differ_by project m u i v j x y p q hx hy hp hq true false a b h =
    let wx : weight_if is_initialised x ≡ room x.count = rw a.initialised refl in
    let r = place_end variables_in (weight_if is_initialised) (units_of project m) u i x (variable_item is_initialised project (definition_at m u i) x hx) in
    let pa = a.before in
    let pb = b.before in absurd (omega arith)
differ_by project m u i v j x y p q hx hy hp hq false true a b h =
    let wy : weight_if is_initialised y ≡ room y.count = rw b.initialised refl in
    let r = place_end variables_in (weight_if is_initialised) (units_of project m) v j y (variable_item is_initialised project (definition_at m v j) y hy) in
    let pa = a.before in
    let pb = b.before in absurd (omega arith)

-- elements of one module that have one place are one element
pub elements_differ : (project : Project) (m u i v j : ℕ) (x y : TVar) (p q : ℕ) → variable_at project (definition_at m u i) ≡ Some x → variable_at project (definition_at m v j) ≡ Some y
    → p < room x.count → q < room y.count
    → elements_before project (definition_at m u i) + p ≡ elements_before project (definition_at m v j) + q → IsOneElement (definition_at m u i) (definition_at m v j) p q
elements_differ project m u i v j x y p q hx hy hp hq h =
    differ_by project m u i v j x y p q hx hy hp hq (is_initialised x) (is_initialised y)
    (placed project (definition_at m u i) x hx (is_initialised x) refl) (placed project (definition_at m v j) y hy (is_initialised y) refl) h
