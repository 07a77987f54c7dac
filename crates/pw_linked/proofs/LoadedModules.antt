-- The loaded project: its modules are among those that are there, so there are no more of them, and their units are well typed.
use Rattle.std.proofs.Common.{◌≡◌, ℕ, zero, suc, ◌+◌, ◌<◌, ◌≤◌, Bool, true, false, cond, List, [], ◌∷◌, length, map, flat_map, Option, Some, None, ◌⊎◌, not, nat_eq, inl, inr, refl, ap, arith, bytes_eq}
use Rattle.std.specs.Prelude.{slice_get}
use Rattle.std.specs.List.{AllByRecursion}
use Rattle.std.specs.Option.{option_map_or}
use Rattle.pw_tree.specs.Units.{TypedUnit}
use Rattle.pw_tree.specs.Names.{Definition, unit_at}
use Rattle.pw_tree.specs.WellTypedUnits.{below, IsWellTyped}
use Rattle.pw_module.specs.LoadOrder.{Needing, number_from, number_of, needed, path_ends, ends_of_paths, each_number_once, load_order}
use Rattle.pw_agree.specs.LoadOrder.{ProjectModule, needing_of, project_order, loaded_project}
use Rattle.pw_agree.specs.Placing.{units_of}
use Rattle.pw_agree.proofs.Members.{IsIn, each_in}
use Rattle.pw_simulation.proofs.Joined.{length_both, length_of_map}
use Rattle.pw_simulation.proofs.Extents.{unit_is}
use Rattle.pw_simulation.proofs.Slots.{got_in}
use Rattle.pw_simulation.proofs.NamesInBodies.{all_both}
use Rattle.pw_simulation.proofs.ImageSees.{units_there}
use Rattle.pw_linked.proofs.Pigeons.{no_longer, in_filtered, numbers_differ}

-- ---- numbers of modules

-- numbers of modules
abbrev AreBelow : ℕ → List ℕ → Type 0
AreBelow n numbers = AllByRecursion (λ k. k < n) numbers

-- what holds of all that lists give
pub all_of_lists : {X Y : Type 0} (P : X → Type 0) (Q : Y → Type 0) (f : X → List Y) → ((x : X) → P x → AllByRecursion Q (f x)) → (xs : List X) → AllByRecursion P xs → AllByRecursion Q (flat_map f xs)
all_of_lists P Q f each [] h = tt
all_of_lists P Q f each (x ∷ xs) h = all_both Q (f x) (flat_map f xs) (each x h.0) (all_of_lists P Q f each xs h.1)

pub all_of_any : {X Y : Type 0} (Q : Y → Type 0) (f : X → List Y) → ((x : X) → AllByRecursion Q (f x)) → (xs : List X) → AllByRecursion Q (flat_map f xs)
all_of_any Q f each [] = tt
all_of_any Q f each (x ∷ xs) = all_both Q (f x) (flat_map f xs) (each x) (all_of_any Q f each xs)

first_by : (n : ℕ) (m : Needing) (ms : List Needing) (name : List ℕ) (k : ℕ) (t : Bool) → cond t (Some n) (number_from (suc n) ms name) ≡ Some k
    → (number_from (suc n) ms name ≡ Some k → k < suc n + length ms) → k < n + length (m ∷ ms)
first_by n m ms name k true h rest = let same : n ≡ k = cc in omega arith
first_by n m ms name k false h rest = let r = rest h in omega arith

number_is_below : (n : ℕ) (ms : List Needing) (name : List ℕ) (k : ℕ) → number_from n ms name ≡ Some k → k < n + length ms
number_is_below n [] name k h = cc
number_is_below n (m ∷ ms) name k h = first_by n m ms name k (bytes_eq m.name name) h (number_is_below (suc n) ms name k)

numbers_by : (ms : List Needing) (name : List ℕ) (o : Option ℕ) → number_from 0 ms name ≡ o → AreBelow (length ms) (option_map_or (λ n. n ∷ []) o [])
numbers_by ms name None e = tt
numbers_by ms name (Some k) e = let r = number_is_below 0 ms name k e in (omega arith, tt)

numbers_are_below : (ms : List Needing) (name : List ℕ) → AreBelow (length ms) (number_of ms name)
numbers_are_below ms name = numbers_by ms name (number_from 0 ms name) refl

needed_by : (ms : List Needing) (o : Option Needing) → AreBelow (length ms) (option_map_or (λ (it : Needing). flat_map (number_of ms) it.needs) o [])
needed_by ms None = tt
needed_by ms (Some it) = all_of_any (λ k. k < length ms) (number_of ms) (numbers_are_below ms) it.needs

ends_are_below : (ms : List Needing) (n m : ℕ) → m < length ms → AreBelow (length ms) (path_ends ms n m)
unfolding path_ends
ends_are_below ms zero m h = (h, tt)
ends_are_below ms (suc n) m h = all_of_lists (λ k. k < length ms) (λ k. k < length ms) (path_ends ms n) (λ k b. ends_are_below ms n k b) (needed ms m) (needed_by ms (slice_get ms m))

paths_are_below : (ms : List Needing) (n : ℕ) → n ≤ length ms → AreBelow (length ms) (ends_of_paths ms n)
unfolding ends_of_paths
paths_are_below ms zero h = tt
paths_are_below ms (suc n) h = all_both (λ k. k < length ms) (ends_of_paths ms n) (path_ends ms n 0) (paths_are_below ms n (omega arith)) (ends_are_below ms n 0 (omega arith))

in_numbers : (numbers : List ℕ) (k : ℕ) → IsIn (each_number_once numbers) k → IsIn numbers k
unfolding each_number_once
in_numbers [] k h = absurd h
in_numbers (n ∷ ns) k (inl e) = inl e
in_numbers (n ∷ ns) k (inr h) = inr (in_numbers ns k (in_filtered (λ other. not (nat_eq n other)) (each_number_once ns) k h).0)

at_most : (m j : ℕ) → j < suc m → (m ≡ j) ⊎ (j < m)
at_most m j less = grind arith

below_by : (n k : ℕ) → (k < n → IsIn (below n) k) → (n ≡ k) ⊎ (k < n) → IsIn (n ∷ below n) k
below_by n k rest (inl e) = inl e
below_by n k rest (inr less) = inr (rest less)

in_below : (n k : ℕ) → k < n → IsIn (below n) k
unfolding below
in_below zero k h = absurd (omega arith)
in_below (suc n) k h = below_by n k (λ less. in_below n k less) (at_most n k h)

length_of_below : (n : ℕ) → length (below n) ≡ n
unfolding below
length_of_below zero = refl
length_of_below (suc n) = ap suc (length_of_below n)

-- the load order is no longer than the list of modules
order_is_short : (ms : List Needing) → length (load_order ms) ≤ length ms
order_is_short ms =
    let few = no_longer (load_order ms) (below (length ms)) (numbers_differ (ends_of_paths ms (length ms)))
    (λ k h. in_below (length ms) k (each_in (λ j. j < length ms) (ends_of_paths ms (length ms)) k (paths_are_below ms (length ms) (omega arith)) (in_numbers (ends_of_paths ms (length ms)) k h))) in
    omega (arith, length_of_below (length ms))

-- ---- the loaded modules

-- the units of a module, if it is there
abbrev units_if_there : List ProjectModule → ℕ → List (List TypedUnit)
units_if_there modules m = option_map_or (λ (it : ProjectModule). it.units ∷ []) (slice_get modules m) []

at_most_one : (o : Option ProjectModule) → length (option_map_or (λ (it : ProjectModule). it.units ∷ []) o []) ≤ 1
at_most_one None = omega arith
at_most_one (Some it) = omega arith

no_more : (modules : List ProjectModule) (numbers : List ℕ) → length (flat_map (units_if_there modules) numbers) ≤ length numbers
no_more modules [] = omega arith
no_more modules (n ∷ ns) =
    let one = at_most_one (slice_get modules n) in
    let rest = no_more modules ns in omega (arith, length_both (units_if_there modules n) (flat_map (units_if_there modules) ns))

pub loaded_are_few : (modules : List ProjectModule) → length (loaded_project modules) ≤ length modules
loaded_are_few modules =
    let a = no_more modules (project_order modules) in
    let b = order_is_short (map needing_of modules) in omega (arith, length_of_map needing_of modules)

-- ---- their units

abbrev AreTyped : List TypedUnit → Type 0
AreTyped units = AllByRecursion IsWellTyped units

typed_by : (modules : List ProjectModule) (n : ℕ) → AllByRecursion (λ (m : ProjectModule). AreTyped m.units) modules → (o : Option ProjectModule) → slice_get modules n ≡ o
    → AllByRecursion AreTyped (option_map_or (λ (it : ProjectModule). it.units ∷ []) o [])
typed_by modules n typed None e = tt
typed_by modules n typed (Some it) e = (each_in (λ (m : ProjectModule). AreTyped m.units) modules it typed (got_in modules n it e), tt)

loaded_are_typed : (modules : List ProjectModule) → AllByRecursion (λ (m : ProjectModule). AreTyped m.units) modules → AllByRecursion AreTyped (loaded_project modules)
loaded_are_typed modules typed = all_of_any AreTyped (units_if_there modules) (λ n. typed_by modules n typed (slice_get modules n) refl) (project_order modules)

pub loaded_module_is_typed : (modules : List ProjectModule) → AllByRecursion (λ (m : ProjectModule). AreTyped m.units) modules → (m : ℕ) → m < length (loaded_project modules)
    → AllByRecursion IsWellTyped (units_of (loaded_project modules) m)
loaded_module_is_typed modules typed m below =
    each_in AreTyped (loaded_project modules) (units_of (loaded_project modules) m) (loaded_are_typed modules typed)
    (got_in (loaded_project modules) m (units_of (loaded_project modules) m) (units_there (loaded_project modules) m below))

pub loaded_unit_is_typed : (modules : List ProjectModule) → AllByRecursion (λ (m : ProjectModule). AreTyped m.units) modules → (d : Definition) (unit : TypedUnit)
    → unit_at (loaded_project modules) d ≡ Some unit → IsWellTyped unit
loaded_unit_is_typed modules typed d unit h =
    let at = unit_is (loaded_project modules) d unit h in
    each_in IsWellTyped (units_of (loaded_project modules) d.in_module) unit (loaded_module_is_typed modules typed d.in_module at.below)
    (got_in (units_of (loaded_project modules) d.in_module) d.in_unit unit at.there)
