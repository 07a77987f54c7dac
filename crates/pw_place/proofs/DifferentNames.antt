-- The first name that has another text beside its first one.
use Rattle.std.proofs.Common.{◌≡◌, ℕ, Bool, true, false, cond, not, ◌&&◌, ◌||◌, if◌then◌else◌, List, [], ◌∷◌, map, filter, fold, find, bytes_eq, Option, Some, None, is_some, option_map, option_and_then, refl, sym, ap, subst, ◌∙◌}
use Rattle.std.specs.List.{list_any, AllByRecursion, IsDistinct}
use Rattle.std.specs.Option.{option_or, option_map_or}
use Rattle.std.specs.Cmp.Lexicographic.{bytes_decides, nat_list_eq_equiv}
use Rattle.std.proofs.Math.Bool.{or-false}
use Rattle.pw_tree.specs.declared.tunit.Ext.{Ext}
use Rattle.pw_code.specs.declared.object.Object.{Object}
use Rattle.pw_place.specs.Names.{first_of_each, same_name, declared_names, external_names}
use Rattle.pw_place.specs.Refusals.{first_some, type_fault, type_differs}
use Rattle.pw_place.specs.Steps.NameLists.{joined}
use Rattle.pw_place.specs.Steps.OtherTexts.{is_other, differs, different_joined, unit_different}
use Rattle.pw_place.specs.Steps.Passing.{first_among}
use Rattle.pw_place.specs.declared.link_error.LinkError.TheVariants.{TypeDiffers}
use Rattle.pw_place.proofs.DefinedTwice.{any_joined}
use Rattle.pw_place.proofs.Found.{get_found, found_any, found_same}
use Rattle.pw_place.proofs.Joined.{fold_flat}

-- ---- the first entries have names of their own

all_filter : {A : Type 0} (P : A → Type 0) (p : A → Bool) (xs : List A) → AllByRecursion P xs → AllByRecursion P (filter p xs)
all_filter P p [] all = tt
all_filter P p (x ∷ xs) all = by (p x) (all_filter P p xs all.1)
  where
    by : (b : Bool) → AllByRecursion P (filter p xs) → AllByRecursion P (cond b (x ∷ filter p xs) (filter p xs))
    by true rest = (all.0, rest)
    by false rest = rest

distinct_filter : {A : Type 0} (same : A → A → Bool) (p : A → Bool) (xs : List A) → IsDistinct same xs → IsDistinct same (filter p xs)
unfolding IsDistinct
distinct_filter same p [] apart = tt
distinct_filter same p (x ∷ xs) apart = by (p x) (all_filter (λ y. same x y ≡ false) p xs apart.0) (distinct_filter same p xs apart.1)
  where
    by : (b : Bool) → AllByRecursion (λ y. same x y ≡ false) (filter p xs) → IsDistinct same (filter p xs) → IsDistinct same (cond b (x ∷ filter p xs) (filter p xs))
    by true first rest = (first, rest)
    by false first rest = rest

-- those that a filter by a name leaves have another
left_differ : (x : Ext) (xs : List Ext) → AllByRecursion (λ y. same_name x y ≡ false) (filter (λ y. not (same_name y x)) xs)
left_differ x [] = tt
left_differ x (y ∷ ys) = by (same_name y x) refl (left_differ x ys)
  where
    by : (b : Bool) → same_name y x ≡ b → AllByRecursion (λ z. same_name x z ≡ false) (filter (λ z. not (same_name z x)) ys) →
        AllByRecursion (λ z. same_name x z ≡ false) (cond (not b) (y ∷ filter (λ z. not (same_name z x)) ys) (filter (λ z. not (same_name z x)) ys))
    by true e rest = rest
    by false e rest = (nat_list_eq_equiv.symm x.name y.name ∙ e, rest)

firsts_differ : (xs : List Ext) → IsDistinct same_name (first_of_each same_name xs)
unfolding IsDistinct first_of_each
firsts_differ [] = tt
firsts_differ (x ∷ xs) =
    (left_differ x (first_of_each same_name xs), distinct_filter same_name (λ y. not (same_name y x)) (first_of_each same_name xs) (firsts_differ xs))

-- An entry is the one of its name.
IsOwn : List Ext → Ext → Type 0
IsOwn entries n = find (λ k. bytes_eq n.name k.name) entries ≡ Some n

own_more : (x : Ext) (xs ys : List Ext) → AllByRecursion (λ y. same_name x y ≡ false) ys → AllByRecursion (λ n. find (λ k. bytes_eq n.name k.name) xs ≡ Some n) ys
    → AllByRecursion (λ n. find (λ k. bytes_eq n.name k.name) (x ∷ xs) ≡ Some n) ys
own_more x xs [] apart own = tt
own_more x xs (y ∷ ys) apart own =
    (ap (λ b. cond b (Some x) (find (λ k. bytes_eq y.name k.name) xs)) (nat_list_eq_equiv.symm y.name x.name ∙ apart.0) ∙ own.0, own_more x xs ys apart.1 own.1)

are_own : (xs : List Ext) → IsDistinct same_name xs → AllByRecursion (λ n. find (λ k. bytes_eq n.name k.name) xs ≡ Some n) xs
unfolding IsDistinct
are_own [] apart = tt
are_own (x ∷ xs) apart =
    (ap (λ b. cond b (Some x) (find (λ k. bytes_eq x.name k.name) xs)) ((bytes_decides x.name x.name).1 refl), own_more x xs xs apart.0 (are_own xs apart.1))

-- ---- the names that joined

joined_by : (entries : List Ext) (name : List ℕ) (names : List (List ℕ)) (m : Ext) (b : Bool) →
    list_any (bytes_eq name) (if b then joined names m.name else names) ≡ (list_any (bytes_eq name) names || (b && bytes_eq name m.name))
joined_by entries name names m true = any_joined name m.name names
joined_by entries name names m false = sym (or-false _)

or_three : (a b c d : Bool) → ((a || (b && c)) || d) ≡ (a || ((c && b) || d))
or_three true b c d = refl
or_three false true true d = refl
or_three false true false d = refl
or_three false false true d = refl
or_three false false false d = refl

different_any : (entries : List Ext) (name : List ℕ) (ms : List Ext) (names : List (List ℕ)) →
    list_any (bytes_eq name) (fold (different_joined entries) names ms)
    ≡ (list_any (bytes_eq name) names || list_any (λ m. bytes_eq name m.name && differs entries m) ms)
different_any entries name [] names = sym (or-false _)
different_any entries name (m ∷ ms) names =
    different_any entries name ms (different_joined entries names m)
    ∙ ap (λ b. b || list_any (λ m. bytes_eq name m.name && differs entries m) ms) (joined_by entries name names m (differs entries m))
    ∙ or_three (list_any (bytes_eq name) names) (differs entries m) (bytes_eq name m.name) (list_any (λ m. bytes_eq name m.name && differs entries m) ms)

-- Of an entry that is the one of its name, another entry with the name differs where its text does.
differs_by : (entries : List Ext) (n m : Ext) → find (λ k. bytes_eq n.name k.name) entries ≡ Some n → (b : Bool) → bytes_eq n.name m.name ≡ b →
    (bytes_eq n.name m.name && differs entries m) ≡ is_other n m
differs_by entries n m own false e =
    ap (λ b. b && differs entries m) e ∙ sym (ap (λ b. b && not (bytes_eq n.text m.text)) e)
differs_by entries n m own true e =
    ap (λ b. bytes_eq n.name m.name && option_map_or (λ first. not (bytes_eq first.text m.text)) b false)
    (get_found (λ k. bytes_eq m.name k.name) entries
    ∙ ap (λ name. find (λ k. bytes_eq name k.name) entries) (sym ((bytes_decides n.name m.name).0 e))
    ∙ own)

any_differs : (entries : List Ext) (n : Ext) → find (λ k. bytes_eq n.name k.name) entries ≡ Some n → (ms : List Ext) →
    list_any (λ m. bytes_eq n.name m.name && differs entries m) ms ≡ list_any (is_other n) ms
any_differs entries n own [] = refl
any_differs entries n own (m ∷ ms) = λ i. differs_by entries n m own (bytes_eq n.name m.name) refl i || any_differs entries n own ms i

-- the names that joined are those with another text
agree : (entries ms : List Ext) (names : List (List ℕ)) → names ≡ fold (different_joined entries) [] ms → (ns : List Ext)
    → AllByRecursion (λ n. find (λ k. bytes_eq n.name k.name) entries ≡ Some n) ns
    → AllByRecursion (λ n. list_any (bytes_eq n.name) names ≡ list_any (is_other n) ms) ns
agree entries ms names e [] own = tt
agree entries ms names e (n ∷ ns) own =
    (ap (list_any (bytes_eq n.name)) e ∙ different_any entries n.name ms [] ∙ any_differs entries n own.0 ms, agree entries ms names e ns own.1)

-- ---- the first fault

fault_more : (objects : List Object) (n : Ext) (ns : List Ext) (found : Option Ext) → find (is_other n) (declared_names objects) ≡ found
    → first_some (map (type_fault objects) ns) ≡ option_and_then (type_fault objects) (find (λ n. is_some (find (is_other n) (declared_names objects))) ns)
    → option_or (type_fault objects n) (first_some (map (type_fault objects) ns))
    ≡ option_and_then (type_fault objects) (cond (is_some (find (is_other n) (declared_names objects))) (Some n) (find (λ n. is_some (find (is_other n) (declared_names objects))) ns))
fault_more objects n ns None e rest = rw e rest
fault_more objects n ns (Some other) e rest =
    let others : List Ext = declared_names objects in
    let fault : type_fault objects n ≡ Some (TypeDiffers n.name n.text other.text) = ap (option_map (λ o. TypeDiffers n.name n.text o.text)) e in
    ap (λ it. option_or it (first_some (map (type_fault objects) ns))) fault
    ∙ sym fault
    ∙ ap (λ it. option_and_then (type_fault objects) (cond (is_some it) (Some n) (find (λ n. is_some (find (is_other n) others)) ns))) (sym e)

first_fault : (objects : List Object) (ns : List Ext) →
    first_some (map (type_fault objects) ns)
    ≡ option_and_then (type_fault objects) (find (λ n. is_some (find (is_other n) (declared_names objects))) ns)
unfolding first_some
first_fault objects [] = refl
first_fault objects (n ∷ ns) = fault_more objects n ns (find (is_other n) (declared_names objects)) refl (first_fault objects ns)

-- The first difference of types is that of the first entry whose name is among those that joined.
pub first_difference : (objects : List Object) (entries : List Ext) (names : List (List ℕ)) → entries ≡ external_names objects
    → names ≡ fold (unit_different entries) [] objects → type_differs objects ≡ option_and_then (type_fault objects) (first_among names entries)
first_difference objects entries names are e =
    let own = are_own entries (subst (IsDistinct same_name) (sym are) (firsts_differ (declared_names objects))) in
    let joins = agree entries (declared_names objects) names (e ∙ fold_flat (different_joined entries) (λ o. o.names) [] objects) entries own in
    let found = found_same (λ n. list_any (bytes_eq n.name) names) (λ n. list_any (is_other n) (declared_names objects)) entries joins in
    first_fault objects (external_names objects)
    ∙ ap (λ ns. option_and_then (type_fault objects) (find (λ n. is_some (find (is_other n) (declared_names objects))) ns)) (sym are)
    ∙ (λ i. option_and_then (type_fault objects) (find (λ n. found_any (is_other n) (declared_names objects) i) entries))
    ∙ ap (option_and_then (type_fault objects)) (sym found)
