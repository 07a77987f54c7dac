-- The names that are defined, and those that are defined more than once, by how often each is.
use Rattle.std.proofs.Common.{◌≡◌, ℕ, ◌+◌, Bool, true, false, cond, ◌&&◌, ◌||◌, if◌then◌else◌, List, [], ◌∷◌, ◌++◌, map, filter, fold, flat_map, count_by, bytes_eq, nat_lt, refl, sym, ap, subst, ◌∙◌, arith}
use Rattle.std.specs.List.{list_any}
use Rattle.std.specs.Cmp.Lexicographic.{bytes_decides}
use Rattle.std.proofs.lemmas.Bool.Decides.{nat_tests}
use Rattle.std.proofs.lemmas.List.{append-nil, append_assoc}
use Rattle.std.proofs.lemmas.List.Folds.{list_any-append}
use Rattle.std.proofs.Math.Bool.{or-false}
use Rattle.std.proofs.lemmas.List.Sums.{fold-append, sum_by_push}
use Rattle.pw_tree.specs.declared.tunit.TVar.{TVar}
use Rattle.pw_code.specs.declared.object.FunCode.{FunCode}
use Rattle.pw_code.specs.declared.object.Object.{Object}
use Rattle.pw_code.specs.Soundness.{defined_names}
use Rattle.pw_place.specs.Steps.NameLists.{joined}
use Rattle.pw_place.specs.Steps.DefinedNames.{defined, function_defined, variable_defined, unit_defined, no_names, AreDefinedNames}
use Rattle.pw_place.specs.declared.defined_names.DefinedNames.{DefinedNames}

-- A name is among those that another has joined, where it was among them or is the other.
known : (name x : List ℕ) (names : List (List ℕ)) → list_any (bytes_eq x) names ≡ true → (b : Bool) → bytes_eq name x ≡ b →
    list_any (bytes_eq name) names ≡ (list_any (bytes_eq name) names || b)
known name x names there false e = sym (or-false _)
known name x names there true e =
    let here : list_any (bytes_eq name) names ≡ true = subst (λ k. list_any (bytes_eq k) names ≡ true) (sym ((bytes_decides name x).0 e)) there in
    here ∙ sym (ap (λ a. a || true) here)

any_joined_by : (name x : List ℕ) (names : List (List ℕ)) (b : Bool) → list_any (bytes_eq x) names ≡ b →
    list_any (bytes_eq name) (if b then names else names ++ x ∷ []) ≡ (list_any (bytes_eq name) names || bytes_eq name x)
any_joined_by name x names true there = known name x names there (bytes_eq name x) refl
any_joined_by name x names false none =
    list_any-append (bytes_eq name) names (x ∷ []) ∙ ap (λ b. list_any (bytes_eq name) names || b) (or-false (bytes_eq name x))

pub any_joined : (name x : List ℕ) (names : List (List ℕ)) →
    list_any (bytes_eq name) (joined names x) ≡ (list_any (bytes_eq name) names || bytes_eq name x)
any_joined name x names = any_joined_by name x names (list_any (bytes_eq x) names) refl

-- These are the names of a list, and those that stand more than once in it.
record AreCounted (list : List (List ℕ)) (names : DefinedNames) : Type 0 where
  once : (name : List ℕ) → list_any (bytes_eq name) names.all ≡ nat_lt 0 (count_by (bytes_eq name) list)
  more : (name : List ℕ) → list_any (bytes_eq name) names.twice ≡ nat_lt 1 (count_by (bytes_eq name) list)

once_by : (c : ℕ) (b : Bool) → (nat_lt 0 c || b) ≡ nat_lt 0 (c + cond b 1 0)
once_by c true = grind (arith, nat_tests)
once_by c false = grind (arith, nat_tests)

more_by : (c : ℕ) (t b : Bool) → (b ≡ true → t ≡ nat_lt 0 c) → (nat_lt 1 c || (t && b)) ≡ nat_lt 1 (c + cond b 1 0)
more_by c true false e = grind (arith, nat_tests)
more_by c false false e = grind (arith, nat_tests)
more_by c true true e = let some = e refl in grind (arith, nat_tests)
more_by c false true e = let none = e refl in grind (arith, nat_tests)

any_if : (name x : List ℕ) (names : List (List ℕ)) (t : Bool) →
    list_any (bytes_eq name) (if t then joined names x else names) ≡ (list_any (bytes_eq name) names || (t && bytes_eq name x))
any_if name x names true = any_joined name x names
any_if name x names false = sym (or-false _)

-- One more name is defined.
counted_more : (list : List (List ℕ)) (names : DefinedNames) (x : List ℕ) → AreCounted list names → AreCounted (list ++ x ∷ []) (defined names x)
counted_more list names x are = record {
  once = λ name.
      any_joined name x names.all
      ∙ ap (λ b. b || bytes_eq name x) (are.once name)
      ∙ once_by (count_by (bytes_eq name) list) (bytes_eq name x)
      ∙ ap (nat_lt 0) (sym (sum_by_push (λ y. cond (bytes_eq name y) 1 0) list x));
  more = λ name.
      any_if name x names.twice (list_any (bytes_eq x) names.all)
      ∙ ap (λ b. b || (list_any (bytes_eq x) names.all && bytes_eq name x)) (are.more name)
      ∙ more_by (count_by (bytes_eq name) list) (list_any (bytes_eq x) names.all) (bytes_eq name x)
      (λ e. subst (λ k. list_any (bytes_eq k) names.all ≡ nat_lt 0 (count_by (bytes_eq name) list)) ((bytes_decides name x).0 e) (are.once name))
      ∙ ap (nat_lt 1) (sym (sum_by_push (λ y. cond (bytes_eq name y) 1 0) list x));
}

counted_all : (xs list : List (List ℕ)) (names : DefinedNames) → AreCounted list names → AreCounted (list ++ xs) (fold defined names xs)
counted_all [] list names are = subst (λ l. AreCounted l names) (sym (append-nil list)) are
counted_all (x ∷ xs) list names are =
    subst (λ l. AreCounted l (fold defined (defined names x) xs)) (append_assoc list (x ∷ []) xs)
    (counted_all xs (list ++ x ∷ []) (defined names x) (counted_more list names x are))

-- ---- the names of units

functions_are : (fs : List FunCode) (names : DefinedNames) →
    fold function_defined names fs ≡ fold defined names (map (λ f. f.name) (filter (λ f. f.global) fs))
functions_are [] names = refl
functions_are (f ∷ fs) names = functions_more f fs names (λ names. functions_are fs names) f.global
  where
    functions_more : (f : FunCode) (fs : List FunCode) (names : DefinedNames)
        → ((names : DefinedNames) → fold function_defined names fs ≡ fold defined names (map (λ f. f.name) (filter (λ f. f.global) fs)))
        → (b : Bool) → fold function_defined (if b then defined names f.name else names) fs ≡ fold defined names (map (λ f. f.name) (cond b (f ∷ filter (λ f. f.global) fs) (filter (λ f. f.global) fs)))
    functions_more f fs names rest true = rest (defined names f.name)
    functions_more f fs names rest false = rest names

variables_are : (xs : List TVar) (names : DefinedNames) →
    fold variable_defined names xs ≡ fold defined names (map (λ x. x.name) (filter (λ x. x.global) xs))
variables_are [] names = refl
variables_are (x ∷ xs) names = variables_more x xs names (λ names. variables_are xs names) x.global
  where
    variables_more : (x : TVar) (xs : List TVar) (names : DefinedNames)
        → ((names : DefinedNames) → fold variable_defined names xs ≡ fold defined names (map (λ x. x.name) (filter (λ x. x.global) xs)))
        → (b : Bool) → fold variable_defined (if b then defined names x.name else names) xs ≡ fold defined names (map (λ x. x.name) (cond b (x ∷ filter (λ x. x.global) xs) (filter (λ x. x.global) xs)))
    variables_more x xs names rest true = rest (defined names x.name)
    variables_more x xs names rest false = rest names

unit_is : (o : Object) (names : DefinedNames) → unit_defined names o ≡ fold defined names (defined_names o)
unit_is o names =
    ap (λ n. fold variable_defined n o.vars) (functions_are o.funs names)
    ∙ variables_are o.vars _
    ∙ sym (fold-append defined names (map (λ f. f.name) (filter (λ f. f.global) o.funs)) (map (λ x. x.name) (filter (λ x. x.global) o.vars)))

units_are : (os : List Object) (names : DefinedNames) → fold unit_defined names os ≡ fold defined names (flat_map defined_names os)
units_are [] names = refl
units_are (o ∷ os) names =
    ap (λ n. fold unit_defined n os) (unit_is o names)
    ∙ units_are os (fold defined names (defined_names o))
    ∙ sym (fold-append defined names (defined_names o) (flat_map defined_names os))

none_counted : AreCounted [] no_names
none_counted = record { once = λ name. refl; more = λ name. refl }

-- The names that objects define, one after another.
pub are_defined : (objects : List Object) → AreDefinedNames objects (fold unit_defined no_names objects)
are_defined objects =
    let all = counted_all (flat_map defined_names objects) [] no_names none_counted in
    subst (AreDefinedNames objects) (sym (units_are objects no_names)) (record { once = all.once; more = all.more })
