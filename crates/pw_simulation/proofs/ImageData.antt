-- The doublewords of a project's data: how many there are, what each of them is, and its bytes.
use Rattle.std.proofs.Common.{◌≡◌, ℕ, zero, suc, ◌+◌, ◌-◌, ◌*◌, ◌<◌, Bool, true, false, cond, List, [], ◌∷◌, ◌++◌, length, take, drop, filter, flat_map, Option, Some, None, refl, sym, ◌∙◌, ap, subst, arith}
use Rattle.std.specs.Prelude.{slice_get, sum_by, replicate}
use Rattle.std.specs.List.{AllByRecursion}
use Rattle.std.specs.Option.{option_map_or, is_some, option_map}
use Rattle.pw_base.specs.Bytes.{le_bytes}
use Rattle.pw_tree.specs.declared.tunit.TVar.{TVar}
use Rattle.pw_tree.specs.declared.tunit.Init.{Init}
use Rattle.pw_tree.specs.declared.tunit.Init.TheVariants.{Num}
use Rattle.pw_tree.specs.Units.{TypedUnit}
use Rattle.pw_tree.specs.Names.{Project, Definition, variable_at}
use Rattle.pw_tree.specs.WellTypedUnits.{room, InitialiserFits, IsWellTypedVariable}
use Rattle.pw_code.specs.Objects.{is_initialised, fill, filled}
use Rattle.pw_agree.specs.Image.{doubleword_bytes, element_image, variable_image, variables_image}
use Rattle.pw_agree.specs.Placing.{units_of}
use Rattle.pw_simulation.specs.Projects.{CanRun}
use Rattle.pw_simulation.specs.ImageWorld.{joined}
use Rattle.pw_simulation.proofs.Joined.{get_left, get_right, length_both, got_below, length_of_copies, length_of_map, sum_more, length_of_joined, joined_at}
use Rattle.pw_simulation.proofs.Extents.{unit_is, unit_found, variable_is, weight_if}
use Rattle.pw_simulation.proofs.Elements.{definition_at, place_if, total_if}
use Rattle.pw_simulation.proofs.Joined as lists

-- ---- bytes

-- doubleword k has its eight bytes at 8 times k
pub bytes_of_doubleword : (values : List ℕ) (k v : ℕ) → slice_get values k ≡ Some v → take 8 (drop (8 * k) (doubleword_bytes values)) ≡ le_bytes 8 v
bytes_of_doubleword [] k v h = cc
bytes_of_doubleword (w ∷ values) zero v h = let same : w ≡ v = cc in ap (le_bytes 8) same
bytes_of_doubleword (w ∷ values) (suc k) v h =
    let next : 8 * suc k ≡ suc (suc (suc (suc (suc (suc (suc (suc (8 * k)))))))) = omega arith in rw next (bytes_of_doubleword values k v h)

pub length_of_doublewords : (values : List ℕ) → length (doubleword_bytes values) ≡ 8 * length values
length_of_doublewords [] = refl
length_of_doublewords (w ∷ values) = let r = length_of_doublewords values in omega arith

-- ---- variables

-- what a variable gives, if it is initialised
abbrev pub part_if : Project → (m u : ℕ) → ℕ → TVar → List ℕ
part_if project m u i x = cond (is_initialised x) (variable_image project m u x) []

abbrev pub variables_part : Project → (m : ℕ) → ℕ → TypedUnit → List ℕ
variables_part project m u unit = joined (part_if project m u) 0 unit.variables

-- a well-typed initialiser is as long as its variable
filled_length : (unit : TypedUnit) (x : TVar) (o : Option (List Init)) → InitialiserFits unit x o → is_some o ≡ true
    → length (option_map_or (λ (values : List Init). values) (option_map (fill x) o) []) ≡ room x.count
filled_length unit x None fits h = cc
filled_length unit x (Some items) fits h =
    let few = fits.0 in
    length_both items (replicate (room x.count - length items) (Num 0)) ∙ omega (arith, length_of_copies (room x.count - length items) (Num 0))

pub length_of_variable : (project : Project) (m u : ℕ) (unit : TypedUnit) (x : TVar) → IsWellTypedVariable unit x → is_initialised x ≡ true → length (variable_image project m u x) ≡ room x.count
length_of_variable project m u unit x typed h =
    length_of_map (element_image project m u) (option_map_or (λ (values : List Init). values) (filled x).init []) ∙ filled_length unit x x.init typed.initialiser h

-- `flat_map` over the initialised variables, and `joined` over all
flat_by : (project : Project) (m u i : ℕ) (x : TVar) (xs : List TVar) (t : Bool) → is_initialised x ≡ t
    → flat_map (variable_image project m u) (filter is_initialised xs) ≡ joined (part_if project m u) (suc i) xs
    → flat_map (variable_image project m u) (filter is_initialised (x ∷ xs)) ≡ part_if project m u i x ++ joined (part_if project m u) (suc i) xs
flat_by project m u i x xs true e h = rw e (ap (λ ys. variable_image project m u x ++ ys) h)
flat_by project m u i x xs false e h = rw e h

flat_is_joined : (project : Project) (m u i : ℕ) (xs : List TVar) → flat_map (variable_image project m u) (filter is_initialised xs) ≡ joined (part_if project m u) i xs
flat_is_joined project m u i [] = refl
flat_is_joined project m u i (x ∷ xs) = flat_by project m u i x xs (is_initialised x) refl (flat_is_joined project m u (suc i) xs)

pub variables_are : (project : Project) (m u : ℕ) (units : List TypedUnit) → variables_image project m u units ≡ joined (variables_part project m) u units
unfolding variables_image
variables_are project m u [] = refl
variables_are project m u (unit ∷ units) =
    ap (λ ys. ys ++ variables_image project m (suc u) units) (flat_is_joined project m u 0 unit.variables)
    ∙ ap (λ ys. joined (part_if project m u) 0 unit.variables ++ ys) (variables_are project m (suc u) units)

-- ---- lengths that hold of well-typed variables alone

module _ {A B : Type 0} (part : ℕ → A → List B) (weight : A → ℕ) where
  -- the lists that some items give have these lengths
  abbrev pub AreLong : ℕ → List A → Type 0
  AreLong n [] = Unit {0}
  AreLong n (x ∷ xs) = (length (part n x) ≡ weight x) × AreLong (suc n) xs

  pub long_length : (n : ℕ) (xs : List A) → AreLong n xs → length (joined part n xs) ≡ sum_by weight xs
  long_length n [] h = refl
  long_length n (x ∷ xs) h = let first = h.0 in length_both (part n x) (joined part (suc n) xs) ∙ omega (arith, long_length (suc n) xs h.1, sum_more weight x xs)

  pub long_at : (n : ℕ) (xs : List A) → AreLong n xs → (j : ℕ) (x : A) → slice_get xs j ≡ Some x → (k : ℕ) → k < weight x
      → slice_get (joined part n xs) (sum_by weight (take j xs) + k) ≡ slice_get (part (n + j) x) k
  long_at n [] h j x there k below = cc
  long_at n (y ∷ ys) h zero x there k below =
      let same : y ≡ x = cc in
      let start : 0 + k ≡ k = omega arith in
      let number : n + 0 ≡ n = omega arith in
      let first = h.0 in
      let short : k < length (part n y) = let w : weight y ≡ weight x = ap weight same in omega arith in
      rw start (get_left (part n y) (joined part (suc n) ys) k short ∙ ap (λ z. slice_get (part n z) k) same ∙ ap (λ i. slice_get (part i x) k) (sym number))
  long_at n (y ∷ ys) h (suc j) x there k below =
      let next : suc n + j ≡ n + suc j = omega arith in
      let first = h.0 in
      let place : sum_by weight (take (suc j) (y ∷ ys)) + k ≡ length (part n y) + (sum_by weight (take j ys) + k) = omega (arith, sum_more weight y (take j ys)) in
      ap (slice_get (joined part n (y ∷ ys))) place ∙ get_right (part n y) (joined part (suc n) ys) (sum_by weight (take j ys) + k)
      ∙ long_at (suc n) ys h.1 j x there k below ∙ ap (λ i. slice_get (part i x) k) next

-- ---- the variables of a module

part_by : (project : Project) (m u i : ℕ) (unit : TypedUnit) (x : TVar) → IsWellTypedVariable unit x → (t : Bool) → is_initialised x ≡ t → length (part_if project m u i x) ≡ weight_if is_initialised x
part_by project m u i unit x typed true e = rw e (length_of_variable project m u unit x typed e)
part_by project m u i unit x typed false e = rw e refl

long_variables : (project : Project) (m u i : ℕ) (unit : TypedUnit) (xs : List TVar) → AllByRecursion (IsWellTypedVariable unit) xs → AreLong (part_if project m u) (weight_if is_initialised) i xs
long_variables project m u i unit [] typed = tt
long_variables project m u i unit (x ∷ xs) typed = (part_by project m u i unit x typed.0 (is_initialised x) refl, long_variables project m u (suc i) unit xs typed.1)

long_units : (project : Project) → CanRun project → (m u : ℕ) (units : List TypedUnit)
    → ((v : ℕ) (unit : TypedUnit) → slice_get units v ≡ Some unit → slice_get (units_of project m) (u + v) ≡ Some unit)
    → AreLong (variables_part project m) (λ (unit : TypedUnit). sum_by (weight_if is_initialised) unit.variables) u units
long_units project run m u [] are = tt
long_units project run m u (unit ∷ units) are =
    let here : u + 0 ≡ u = omega arith in
    let there = unit_found project (definition_at m u 0) unit (subst (λ k. slice_get (units_of project m) k ≡ Some unit) here (are 0 unit refl)) in (
      long_length (part_if project m u) (weight_if is_initialised) 0 unit.variables (long_variables project m u 0 unit unit.variables (run.units (definition_at m u 0) unit there).variables),
      long_units project run m (suc u) units (λ v other got. let next : u + suc v ≡ suc u + v = omega arith in subst (λ k. slice_get (units_of project m) k ≡ Some other) next (are (suc v) other got)),
    )

long_module : (project : Project) → CanRun project → (m : ℕ) → AreLong (variables_part project m) (λ (unit : TypedUnit). sum_by (weight_if is_initialised) unit.variables) 0 (units_of project m)
long_module project run m = long_units project run m 0 (units_of project m) (λ v unit got. let start : 0 + v ≡ v = omega arith in subst (λ k. slice_get (units_of project m) k ≡ Some unit) (sym start) got)

pub length_of_variables : (project : Project) → CanRun project → (m : ℕ) → length (variables_image project m 0 (units_of project m)) ≡ total_if is_initialised project m
length_of_variables project run m =
    ap length (variables_are project m 0 (units_of project m))
    ∙ long_length (variables_part project m) (λ (unit : TypedUnit). sum_by (weight_if is_initialised) unit.variables) 0 (units_of project m) (long_module project run m)

-- an element of an initialised variable
pub initialised_at : (project : Project) → CanRun project → (d : Definition) (x : TVar) → variable_at project d ≡ Some x → is_initialised x ≡ true → (i : ℕ) → i < room x.count
    → slice_get (variables_image project d.in_module 0 (units_of project d.in_module)) (place_if is_initialised project d + i) ≡ slice_get (variable_image project d.in_module d.in_unit x) i
initialised_at project run d x h has i below =
    let m = d.in_module in
    let u = d.in_unit in
    let it = variable_is project d x h in
    let at = unit_is project d it.unit it.unit_there in
    let weight = weight_if is_initialised in
    let w : weight_if is_initialised x ≡ room x.count = rw has refl in
    let before : ℕ = sum_by (weight_if is_initialised) (take d.number it.unit.variables) in
    let units_before : ℕ = sum_by (λ (unit : TypedUnit). sum_by (weight_if is_initialised) unit.variables) (take u (units_of project m)) in
    let within = lists.sum_before (weight_if is_initialised) it.unit.variables d.number x it.there in
    let place_is : place_if is_initialised project d + i ≡ units_before + (before + i) =
    ap (λ o. units_before + sum_by (weight_if is_initialised) (take d.number (option_map_or (λ (unit : TypedUnit). unit.variables) o [])) + i) at.there ∙ omega arith in
    let unit_number : 0 + u ≡ u = omega arith in
    let number : 0 + d.number ≡ d.number = omega arith in
    ap (λ ys. slice_get ys (place_if is_initialised project d + i)) (variables_are project m 0 (units_of project m))
    ∙ ap (slice_get (joined (variables_part project m) 0 (units_of project m))) place_is
    ∙ long_at (variables_part project m) (λ (unit : TypedUnit). sum_by (weight_if is_initialised) unit.variables) 0 (units_of project m) (long_module project run m) u it.unit at.there (before + i) (omega arith)
    ∙ ap (λ v. slice_get (variables_part project m v it.unit) (before + i)) unit_number
    ∙ long_at (part_if project m u) (weight_if is_initialised) 0 it.unit.variables (long_variables project m u 0 it.unit it.unit.variables (run.units d it.unit it.unit_there).variables) d.number x it.there i (omega arith)
    ∙ ap (λ t. slice_get (cond t (variable_image project m u x) []) i) has
