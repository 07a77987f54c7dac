-- The functions of a project as lists: the roots, what a function names, and the ends of the ways of so many names.
use Rattle.std.proofs.Common.{◌≡◌, ℕ, zero, suc, ◌+◌, List, [], ◌∷◌, ◌++◌, flat_map, inl, inr, refl, sym, subst, arith, Option, Some, None, codes}
use Rattle.std.specs.Prelude.{slice_get, option_and_then}
use Rattle.std.specs.Option.{option_map_or}
use Rattle.std.specs.List.{AllByRecursion}
use Rattle.pw_tree.specs.declared.tunit.TVar.{TVar}
use Rattle.pw_tree.specs.declared.tunit.Init.{Init}
use Rattle.pw_tree.specs.declared.tunit.Init.TheVariants.{Num, Fun}
use Rattle.pw_tree.specs.Units.{TypedUnit}
use Rattle.pw_tree.specs.Names.{Project, Definition, Entity, function, object, definition_of, resolved}
use Rattle.pw_tree.specs.Depends.{Node, entry, defined, names_of_all}
use Rattle.pw_tree.specs.Meaning.{called_function}
use Rattle.pw_agree.specs.Kept.{IsRoot, Leads, IsKept, root, named, HasWay}
use Rattle.pw_agree.proofs.Members.{IsIn, contained_is_in, each_in, in_left, in_right, in_flat_map}

-- the function that a name means, if it means one
abbrev pub function_meant : Option Entity → List Node
function_meant None = []
function_meant (Some (object x)) = []
function_meant (Some (function g)) = defined g ∷ []

meant_in : (e : Option Entity) (g : Definition) → e ≡ Some (function g) → IsIn (function_meant e) (defined g)
meant_in e g is = subst (λ o. IsIn (function_meant o) (defined g)) (sym is) (inl refl)

-- ---- what a function names

abbrev pub led_to : Project → Node → List Node
led_to project entry = function_meant (definition_of project (codes "main"))
led_to project (defined f) =
    flat_map (λ name. function_meant (resolved project f.in_module f.in_unit name)) (names_of_all (called_function project f).body)

pub led_in : (project : Project) (m n : Node) → Leads project m n → IsIn (led_to project m) n
led_in project entry entry h = absurd h
led_in project (defined f) entry h = absurd h
led_in project entry (defined g) h = meant_in (definition_of project (codes "main")) g h
led_in project (defined f) (defined g) h =
    in_flat_map (λ name. function_meant (resolved project f.in_module f.in_unit name)) (names_of_all (called_function project f).body) h.0 (defined g)
    (contained_is_in (names_of_all (called_function project f).body) h.0 h.1) (meant_in (resolved project f.in_module f.in_unit h.0) g h.2)

-- ---- the roots

abbrev pub pointed_by_element : Project → (m u : ℕ) → Init → List Node
pointed_by_element project m u (Num value) = []
pointed_by_element project m u (Fun name) = function_meant (resolved project m u name)

abbrev pub pointed_by : Project → (m u : ℕ) → TVar → List Node
pointed_by project m u x = flat_map (pointed_by_element project m u) (option_map_or (λ values. values) x.init [])

-- by the variables of the units from number u on, and of the modules from number m on
abbrev pub pointed_by_units : Project → (m u : ℕ) → List TypedUnit → List Node
pointed_by_units project m u [] = []
pointed_by_units project m u (unit ∷ units) =
    flat_map (pointed_by project m u) unit.variables ++ pointed_by_units project m (suc u) units

abbrev pub pointed_by_modules : Project → (m : ℕ) → List (List TypedUnit) → List Node
pointed_by_modules project m [] = []
pointed_by_modules project m (units ∷ modules) = pointed_by_units project m 0 units ++ pointed_by_modules project (suc m) modules

abbrev pub roots : Project → List Node
roots project = entry ∷ pointed_by_modules project 0 project

got_in : {X : Type 0} (xs : List X) (i : ℕ) (x : X) → slice_get xs i ≡ Some x → IsIn xs x
got_in [] i x h = cc
got_in (y ∷ ys) zero x h = let e : y ≡ x = cc in inl e
got_in (y ∷ ys) (suc i) x h = inr (got_in ys i x h)

in_units : (project : Project) (m u : ℕ) (units : List TypedUnit) (i : ℕ) (unit : TypedUnit) (n : Node) → slice_get units i ≡ Some unit
    → IsIn (flat_map (pointed_by project m (u + i)) unit.variables) n → IsIn (pointed_by_units project m u units) n
in_units project m u [] i unit n there h = cc
in_units project m u (y ∷ ys) zero unit n there h =
    let same : y ≡ unit = cc in
    let here : u + 0 ≡ u = omega arith in
    in_left (flat_map (pointed_by project m u) y.variables) (pointed_by_units project m (suc u) ys) n
    (subst (λ (z : TypedUnit). IsIn (flat_map (pointed_by project m u) z.variables) n) (sym same)
    (subst (λ v. IsIn (flat_map (pointed_by project m v) unit.variables) n) here h))
in_units project m u (y ∷ ys) (suc i) unit n there h =
    let next : u + suc i ≡ suc u + i = omega arith in
    in_right (flat_map (pointed_by project m u) y.variables) (pointed_by_units project m (suc u) ys) n
    (in_units project m (suc u) ys i unit n there (subst (λ v. IsIn (flat_map (pointed_by project m v) unit.variables) n) next h))

in_modules : (project : Project) (m : ℕ) (modules : List (List TypedUnit)) (i : ℕ) (units : List TypedUnit) (n : Node) →
    slice_get modules i ≡ Some units
    → IsIn (pointed_by_units project (m + i) 0 units) n → IsIn (pointed_by_modules project m modules) n
in_modules project m [] i units n there h = cc
in_modules project m (y ∷ ys) zero units n there h =
    let same : y ≡ units = cc in
    let here : m + 0 ≡ m = omega arith in
    in_left (pointed_by_units project m 0 y) (pointed_by_modules project (suc m) ys) n
    (subst (λ z. IsIn (pointed_by_units project m 0 z) n) (sym same) (subst (λ k. IsIn (pointed_by_units project k 0 units) n) here h))
in_modules project m (y ∷ ys) (suc i) units n there h =
    let next : m + suc i ≡ suc m + i = omega arith in
    in_right (pointed_by_units project m 0 y) (pointed_by_modules project (suc m) ys) n
    (in_modules project (suc m) ys i units n there (subst (λ k. IsIn (pointed_by_units project k 0 units) n) next h))

-- where a variable stands
record Stands (project : Project) (d : Definition) (x : TVar) : Type 0 where
  units : List TypedUnit
  module_there : slice_get project d.in_module ≡ Some units
  unit : TypedUnit
  unit_there : slice_get units d.in_unit ≡ Some unit
  variable_there : slice_get unit.variables d.number ≡ Some x

stands_by : (project : Project) (d : Definition) (x : TVar) (units : List TypedUnit) →
    slice_get project d.in_module ≡ Some units → (o : Option TypedUnit)
    → slice_get units d.in_unit ≡ o → option_and_then (λ (unit : TypedUnit). slice_get unit.variables d.number) o ≡ Some x → Stands project d x
stands_by project d x units there None e h = cc
stands_by project d x units there (Some unit) e h =
    record { units = units; module_there = there; unit = unit; unit_there = e; variable_there = h }

stands_in : (project : Project) (d : Definition) (x : TVar) (o : Option (List TypedUnit)) → slice_get project d.in_module ≡ o
    → option_and_then (λ (unit : TypedUnit). slice_get unit.variables d.number) (option_and_then (λ units. slice_get units d.in_unit) o) ≡ Some x
    → Stands project d x
stands_in project d x None e h = cc
stands_in project d x (Some units) e h = stands_by project d x units e (slice_get units d.in_unit) refl h

pub root_in : (project : Project) (n : Node) → IsRoot project n → IsIn (roots project) n
root_in project entry h = inl refl
root_in project (defined g) h =
    let s = stands_in project h.at h.variable (slice_get project h.at.in_module) refl h.there in
    let values : List Init = option_map_or (λ values. values) h.variable.init [] in
    let value : IsIn values (Fun h.name) =
    subst (λ o. IsIn (option_map_or (λ values. values) o []) (Fun h.name)) (sym h.initialised) (contained_is_in h.values (Fun h.name) h.named) in
    let by_value = in_flat_map (pointed_by_element project h.at.in_module h.at.in_unit) values (Fun h.name) (defined g) value (meant_in (resolved project h.at.in_module h.at.in_unit h.name) g h.means) in
    let by_variable = in_flat_map (pointed_by project h.at.in_module h.at.in_unit) s.unit.variables h.variable (defined g) (got_in s.unit.variables h.at.number h.variable s.variable_there) by_value in
    let from_zero_u : 0 + h.at.in_unit ≡ h.at.in_unit = omega arith in
    let from_zero_m : 0 + h.at.in_module ≡ h.at.in_module = omega arith in
    let by_unit : IsIn (pointed_by_units project h.at.in_module 0 s.units) (defined g) =
    in_units project h.at.in_module 0 s.units h.at.in_unit s.unit (defined g) s.unit_there
    (subst (λ v. IsIn (flat_map (pointed_by project h.at.in_module v) s.unit.variables) (defined g)) (sym from_zero_u) by_variable) in
    inr (in_modules project 0 project h.at.in_module s.units (defined g) s.module_there
    (subst (λ k. IsIn (pointed_by_units project k 0 s.units) (defined g)) (sym from_zero_m) by_unit))

-- ---- what is kept

-- the roots are in a list, and so is what its functions name
pub record IsClosed (project : Project) (ns : List Node) : Type 0 where
  pub roots_in : AllByRecursion (IsIn ns) (roots project)
  pub named_in : AllByRecursion (λ m. AllByRecursion (IsIn ns) (led_to project m)) ns

pub kept_among : (project : Project) (ns : List Node) (n : Node) → IsClosed project ns → IsKept project n → IsIn ns n
kept_among project ns n closed (root h) = each_in (IsIn ns) (roots project) n closed.roots_in (root_in project n h)
kept_among project ns n closed (named {m} h leads) =
    each_in (IsIn ns) (led_to project m) n
    (each_in (λ k. AllByRecursion (IsIn ns) (led_to project k)) ns m closed.named_in (kept_among project ns m closed h)) (led_in project m n leads)

-- ---- ways

-- the ends of the ways of so many names
abbrev pub ends : Project → ℕ → List Node
ends project zero = roots project
ends project (suc k) = flat_map (led_to project) (ends project k)

pub way_in : (project : Project) (k : ℕ) (n : Node) → HasWay project k n → IsIn (ends project k) n
way_in project zero n h = root_in project n h
way_in project (suc k) n h = in_flat_map (led_to project) (ends project k) h.0 n (way_in project k h.0 h.1) (led_in project h.0 n h.2)
