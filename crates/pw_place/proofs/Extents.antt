-- How far functions, slots and variables reach.
use Rattle.std.proofs.Common.{◌≡◌, ℕ, suc, ◌+◌, ◌*◌, ◌≤◌, Bool, true, false, cond, List, [], ◌∷◌, ◌++◌, length, take, drop, filter, refl, sym, ◌∙◌, ap, arith, zero-add, Option, Some, None, length-append}
use Rattle.std.specs.Prelude.{slice_get, flat_map, sum_by, bytes_eq, not}
use Rattle.std.specs.Option.{is_none, is_some, option_map_or}
use Rattle.std.proofs.lemmas.List.Sums.{sum_by-append, sum_by-cons}
use Rattle.std.specs.List.{AllByRecursion}
use Rattle.std.proofs.lemmas.List.Elements.{filter-append}
use Rattle.std.proofs.lemmas.Grind.{flat_map-append}
use Rattle.pw_base.specs.declared.kinds.Kind.{Kind}
use Rattle.pw_tree.specs.declared.ty.Ref.TheVariants.{Global, LocalFun, LocalVar}
use Rattle.pw_tree.specs.declared.tunit.TVar.{TVar}
use Rattle.pw_tree.specs.declared.tunit.Init.{Init}
use Rattle.pw_tree.specs.Types.{IsArraySize}
use Rattle.pw_tree.specs.WellTypedUnits.{room}
use Rattle.pw_code.specs.declared.item.Item.{Item}
use Rattle.pw_code.specs.declared.item.Item.TheVariants.{Word, Addr}
use Rattle.pw_code.specs.declared.object.FunCode.{FunCode}
use Rattle.pw_code.specs.declared.object.Object.{Object}
use Rattle.pw_code.specs.Objects.{is_initialised, is_uninitialised}
use Rattle.pw_code.specs.Soundness.{IsSound, IsSoundVariable}
use Rattle.pw_place.specs.Names.{first_of_each}
use Rattle.pw_place.specs.Sizes.{item_bytes, code_bytes, function_bytes, variable_bytes, entry_items}
use Rattle.pw_place.specs.Places.{functions, variables, functions_in, variables_in, functions_before, variables_before, function_start, text_size, variable_start, names_in_item, text_items, slots_size, initialised_size, uninitialised_size}
use Rattle.pw_place.specs.Refusals.{elements}
use Rattle.pw_place.proofs.Numbered.{cut_at, cut_inside}

-- A definition of a unit among those of all units.
in_unit : {A : Type 0} (of : Object → List A) (objects : List Object) (unit i : ℕ) (a : A)
    → slice_get (option_map_or of (slice_get objects unit) []) i ≡ Some a
    → (after : List A)
    × (flat_map of objects ≡ (flat_map of (take unit objects) ++ take i (option_map_or of (slice_get objects unit) [])) ++ (a ∷ after))
in_unit of objects unit i a there = by of objects unit i a (slice_get objects unit) refl there
  where
    by : {A : Type 0} (of : Object → List A) (objects : List Object) (unit i : ℕ) (a : A) (r : Option Object) → slice_get objects unit ≡ r
        → slice_get (option_map_or of r []) i ≡ Some a
        → (after : List A) × (flat_map of objects ≡ (flat_map of (take unit objects) ++ take i (option_map_or of r [])) ++ (a ∷ after))
    by of objects unit i a None e there = cc
    by of objects unit i a (Some o) e there =
        (drop (suc i) (of o) ++ flat_map of (drop (suc unit) objects), cut_inside of objects unit i o a e there)

-- What is summed up to an element of a list is within the sum of all.
sum_to : {A : Type 0} (f : A → ℕ) (all before : List A) (a : A) (after : List A) → all ≡ before ++ (a ∷ after) → sum_by f before + f a ≤ sum_by f all
sum_to f all before a after same =
    let whole : sum_by f all ≡ sum_by f before + sum_by f (a ∷ after) = ap (sum_by f) same ∙ sum_by-append f before (a ∷ after) in
    let rest : sum_by f (a ∷ after) ≡ f a + sum_by f after = sum_by-cons f a after in
    omega arith

-- ---- functions

-- A function of a unit ends within the text.
pub function_end : (kind : Kind) (objects : List Object) (unit i : ℕ) (f : FunCode) → slice_get (functions_in objects unit) i ≡ Some f
    → function_start kind objects unit i + function_bytes f ≤ text_size kind objects
function_end kind objects unit i f there =
    let cut = in_unit (λ o. o.funs) objects unit i f there in
    let within = sum_to function_bytes (functions objects) (functions_before objects unit i) f cut.0 cut.1 in
    omega arith

-- ---- variables

-- What is summed of the elements that pass a test.
passing : {X : Type 0} (f : X → ℕ) (p : X → Bool) (x : X) (xs : List X) (b : Bool) → p x ≡ b
    → sum_by f (filter p (x ∷ xs)) ≡ cond b (f x) 0 + sum_by f (filter p xs)
passing f p x xs true e = rw e (sum_by-cons f x (filter p xs))
passing f p x xs false e = rw e (sym (zero-add (sum_by f (filter p xs))))

not_none : (x : TVar) (b : Bool) → is_initialised x ≡ b → is_uninitialised x ≡ not b
not_none x b e = by x.init b e
  where
    by : (init : Option (List Init)) (b : Bool) → is_some init ≡ b → is_none init ≡ not b
    by (Some values) true e = refl
    by (Some values) false e = cc
    by None true e = cc
    by None false e = refl

-- Of all variables, those with an initialiser and the others together have eight bytes for each element.
pub sizes_of_variables : (xs : List TVar) → initialised_size xs + uninitialised_size xs ≡ 8 * sum_by (λ x. room x.count) xs
sizes_of_variables [] = refl
sizes_of_variables (x ∷ xs) =
    by x xs (sizes_of_variables xs) (is_initialised x) refl
  where
    by : (x : TVar) (xs : List TVar) → initialised_size xs + uninitialised_size xs ≡ 8 * sum_by (λ x. room x.count) xs
        → (b : Bool) → is_initialised x ≡ b → initialised_size (x ∷ xs) + uninitialised_size (x ∷ xs) ≡ 8 * sum_by (λ x. room x.count) (x ∷ xs)
    by x xs rest true e =
        let one = passing variable_bytes is_initialised x xs true e in
        let other = passing variable_bytes is_uninitialised x xs false (not_none x true e) in
        let all = sum_by-cons (λ (x : TVar). room x.count) x xs in
        omega arith
    by x xs rest false e =
        let one = passing variable_bytes is_initialised x xs false e in
        let other = passing variable_bytes is_uninitialised x xs true (not_none x false e) in
        let all = sum_by-cons (λ (x : TVar). room x.count) x xs in
        omega arith

-- What is summed, of the elements that pass a test, up to one that does.
passing_to : {A : Type 0} (f : A → ℕ) (p : A → Bool) (all before : List A) (a : A) (after : List A) → p a ≡ true → all ≡ before ++ (a ∷ after)
    → sum_by f (filter p before) + f a ≤ sum_by f (filter p all)
passing_to f p all before a after passes same =
    let whole : sum_by f (filter p all) ≡ sum_by f (filter p before) + sum_by f (filter p (a ∷ after)) =
    ap (λ xs. sum_by f (filter p xs)) same ∙ ap (sum_by f) (filter-append p before (a ∷ after))
    ∙ sum_by-append f (filter p before) (filter p (a ∷ after)) in
    let rest : sum_by f (filter p (a ∷ after)) ≡ f a + sum_by f (filter p after) = passing f p a after true passes in
    omega arith

-- A variable of a unit ends where there is room for all slots and all elements.
pub variable_end : (kind : Kind) (objects : List Object) (unit i : ℕ) (x : TVar) → slice_get (variables_in objects unit) i ≡ Some x
    → variable_start kind objects unit i + variable_bytes x ≤ slots_size kind objects + 8 * elements objects
variable_end kind objects unit i x there = rw there (by kind objects unit i x there (is_initialised x) refl)
  where
    by : (kind : Kind) (objects : List Object) (unit i : ℕ) (x : TVar) → slice_get (variables_in objects unit) i ≡ Some x
        → (b : Bool) → is_initialised x ≡ b
        → cond (is_initialised x) (slots_size kind objects + initialised_size (variables_before objects unit i))
        (slots_size kind objects + initialised_size (variables objects) + uninitialised_size (variables_before objects unit i))
        + variable_bytes x
        ≤ slots_size kind objects + 8 * elements objects
    by kind objects unit i x there true e =
        let cut = in_unit (λ o. o.vars) objects unit i x there in
        let all = sizes_of_variables (variables objects) in
        let within = passing_to variable_bytes is_initialised (variables objects) (variables_before objects unit i) x cut.0 e cut.1 in
        rw e (omega arith)
    by kind objects unit i x there false e =
        let cut = in_unit (λ o. o.vars) objects unit i x there in
        let all = sizes_of_variables (variables objects) in
        let within = passing_to variable_bytes is_uninitialised (variables objects) (variables_before objects unit i) x cut.0 (not_none x false e) cut.1 in
        rw e (omega arith)

pub few_zeros : (objects : List Object) → uninitialised_size (variables objects) ≤ 8 * elements objects
few_zeros objects = omega (arith, sizes_of_variables (variables objects))

-- Variables have an element at least.
at_least_one : (o : Object) (xs : List TVar) → AllByRecursion (IsSoundVariable o) xs → length xs ≤ sum_by (λ x. room x.count) xs
at_least_one o [] sound = omega arith
at_least_one o (x ∷ xs) sound =
    let one = some x.count sound.0.size in
    let rest = at_least_one o xs sound.1 in
    let all = sum_by-cons (λ (x : TVar). room x.count) x xs in
    omega arith
  where
    some : (count : Option ℕ) → IsArraySize count → 1 ≤ room count
    some None size = omega arith
    some (Some n) size = size.0

-- A sound object of these has fewer variables than they have elements.
pub few_variables : (objects : List Object) (unit : ℕ) (o : Object) → slice_get objects unit ≡ Some o → IsSound o → length o.vars ≤ elements objects
few_variables objects unit o there sound =
    let count : Object → ℕ = λ o. sum_by (λ x. room x.count) o.vars in
    let cut = cut_at objects unit o there in
    let before = take unit objects in
    let after = drop (suc unit) objects in
    let one = at_least_one o o.vars sound.variables in
    let whole : elements objects ≡ sum_by (λ (x : TVar). room x.count) (variables before ++ variables (o ∷ after)) =
    ap elements cut ∙ ap (sum_by (λ (x : TVar). room x.count)) (flat_map-append (λ (o : Object). o.vars) before (o ∷ after)) in
    let parts = sum_by-append (λ (x : TVar). room x.count) (variables before) (variables (o ∷ after)) in
    let last = sum_by-append (λ (x : TVar). room x.count) o.vars (variables after) in
    omega arith

-- ---- slots

length_passing : {X : Type 0} (p : X → Bool) (xs : List X) → length (filter p xs) ≤ length xs
length_passing p [] = omega arith
length_passing p (x ∷ xs) = by p x xs (p x) refl (length_passing p xs)
  where
    by : {X : Type 0} (p : X → Bool) (x : X) (xs : List X) (b : Bool) → p x ≡ b → length (filter p xs) ≤ length xs
        → length (filter p (x ∷ xs)) ≤ length (x ∷ xs)
    by p x xs true e rest = rw e (omega arith)
    by p x xs false e rest = rw e (omega arith)

few_firsts : {X : Type 0} (same : X → X → Bool) (xs : List X) → length (first_of_each same xs) ≤ length xs
unfolding first_of_each
few_firsts same [] = omega arith
few_firsts same (x ∷ xs) =
    let rest = few_firsts same xs in
    let passed = length_passing (λ y. not (same y x)) (first_of_each same xs) in
    omega arith

bytes_of_name : (item : Item) → 8 * length (names_in_item item) ≤ item_bytes item
bytes_of_name (Word w) = omega arith
bytes_of_name (Addr rd (Global name)) = omega arith
bytes_of_name (Addr rd (LocalFun i)) = omega arith
bytes_of_name (Addr rd (LocalVar i)) = omega arith

-- Each reference of code to a name takes eight bytes.
bytes_of_names : (items : List Item) → 8 * length (flat_map names_in_item items) ≤ code_bytes items
bytes_of_names [] = omega arith
bytes_of_names (item ∷ items) =
    let one = bytes_of_name item in
    let rest = bytes_of_names items in
    let all = sum_by-cons item_bytes item items in
    let both = length-append (names_in_item item) (flat_map names_in_item items) in
    omega arith

bytes_of_functions : (fs : List FunCode) → code_bytes (flat_map (λ f. f.items) fs) ≡ sum_by function_bytes fs
bytes_of_functions [] = refl
bytes_of_functions (f ∷ fs) =
    let rest = bytes_of_functions fs in
    let all = sum_by-cons function_bytes f fs in
    let both = sum_by-append item_bytes f.items (flat_map (λ (f : FunCode). f.items) fs) in
    omega arith

-- The slots take no more than the text.
pub few_slots : (kind : Kind) (objects : List Object) → slots_size kind objects ≤ text_size kind objects
few_slots kind objects =
    let items : List Item = text_items kind objects in
    let firsts = few_firsts bytes_eq (flat_map names_in_item items) in
    let names = bytes_of_names items in
    let all = sum_by-append item_bytes (entry_items kind) (flat_map (λ (f : FunCode). f.items) (functions objects)) in
    let code = bytes_of_functions (functions objects) in
    omega arith
