-- Places that follow one another: one more item, and where the next ones stand.
use Rattle.std.proofs.Common.{◌≡◌, ℕ, ◌+◌, ◌<◌, ◌≤◌, Bool, true, false, if◌then◌else◌, List, [], ◌∷◌, ◌++◌, length, take, get_or, fold, sum_by, refl, sym, ap, ◌∙◌, subst, arith}
use Rattle.std.proofs.lemmas.List.{take_more}
use Rattle.std.proofs.lemmas.List.Sums.{fold_push, sum_by-append, sum_by-cons, sum_by_more_le}
use Rattle.pw_tree.specs.declared.tunit.TVar.{TVar}
use Rattle.pw_code.specs.declared.object.FunCode.{FunCode}
use Rattle.pw_code.specs.declared.object.Object.{Object}
use Rattle.pw_code.specs.Objects.{is_initialised}
use Rattle.pw_place.specs.Sizes.{function_bytes, variable_bytes}
use Rattle.pw_place.specs.Places.{functions, variables, initialised_size, uninitialised_size}
use Rattle.pw_place.specs.Steps.Running.{running, after_function, after_variable, after_functions, after_unit}
use Rattle.pw_place.specs.declared.placing.Next.{Next}
use Rattle.pw_place.proofs.VariableParts.{initialised_part, other_part, initialised_is, others_are}

module _ {S X Y : Type 0} (seen : S → X → Y) (after : S → X → S) where
  running_push : (s : S) (xs : List X) (x : X) → running seen after s (xs ++ x ∷ []) ≡ running seen after s xs ++ seen (fold after s xs) x ∷ []
  running_push s [] x = refl
  running_push s (y ∷ ys) x = ap (λ l. seen s y ∷ l) (running_push (after s y) ys x)

  -- what is seen of one more
  pub running_more : (s : S) (xs : List X) (i : ℕ) (x : X) → i < length xs → x ≡ get_or xs i x →
      running seen after s (take (i + 1) xs) ≡ running seen after s (take i xs) ++ seen (fold after s (take i xs)) x ∷ []
  running_more s xs i x within is =
      ap (running seen after s) (take_more xs i x within ∙ ap (λ y. take i xs ++ y ∷ []) (sym is)) ∙ running_push s (take i xs) x

  -- and the state after it
  pub after_more : (s : S) (xs : List X) (i : ℕ) (x : X) → i < length xs → x ≡ get_or xs i x →
      fold after s (take (i + 1) xs) ≡ after (fold after s (take i xs)) x
  after_more s xs i x within is =
      ap (fold after s) (take_more xs i x within ∙ ap (λ y. take i xs ++ y ∷ []) (sym is)) ∙ fold_push after s (take i xs) x

-- ---- where the next ones stand

next_is : (a b : Next) → a.function ≡ b.function → a.initialised ≡ b.initialised → a.others ≡ b.others → a ≡ b
next_is a b e f g = λ i. record { function = e i; initialised = f i; others = g i }

pub functions_passed : (fs : List FunCode) (next : Next) →
    fold after_function next fs ≡ record next { function = next.function + sum_by function_bytes fs }
functions_passed [] next = next_is _ _ (omega arith) refl refl
functions_passed (f ∷ fs) next =
    functions_passed fs (after_function next f)
    ∙ next_is _ _ (let parts = sum_by-cons function_bytes f fs in omega (arith, parts)) refl refl

-- so many bytes further
abbrev pub moved : Next → (function initialised others : ℕ) → Next
moved next f i o = record { function = next.function + f; initialised = next.initialised + i; others = next.others + o }

one_variable : (next : Next) (x : TVar) → after_variable next x ≡ moved next 0 (initialised_part x) (other_part x)
one_variable next x = by (is_initialised x)
  where
    by : (b : Bool) →
        (if b then record next { initialised = next.initialised + variable_bytes x } else record next { others = next.others + variable_bytes x })
        ≡ moved next 0 (if b then variable_bytes x else 0) (if b then 0 else variable_bytes x)
    by true = next_is _ _ (omega arith) refl (omega arith)
    by false = next_is _ _ (omega arith) (omega arith) refl

pub variables_passed : (xs : List TVar) (next : Next) →
    fold after_variable next xs ≡ moved next 0 (sum_by initialised_part xs) (sum_by other_part xs)
variables_passed [] next = next_is _ _ (omega arith) (omega arith) (omega arith)
variables_passed (x ∷ xs) next =
    variables_passed xs (after_variable next x)
    ∙ ap (λ n. moved n 0 (sum_by initialised_part xs) (sum_by other_part xs)) (one_variable next x)
    ∙ next_is _ _ (omega arith) (let parts = sum_by-cons initialised_part x xs in omega (arith, parts)) (let parts = sum_by-cons other_part x xs in omega (arith, parts))

pub unit_passed : (next : Next) (o : Object) →
    after_unit next o ≡ moved next (sum_by function_bytes o.funs) (sum_by initialised_part o.vars) (sum_by other_part o.vars)
unit_passed next o =
    variables_passed o.vars (after_functions next o)
    ∙ ap (λ n. moved n 0 (sum_by initialised_part o.vars) (sum_by other_part o.vars)) (functions_passed o.funs next)
    ∙ next_is _ _ (omega arith) refl refl

pub units_passed : (os : List Object) (next : Next) →
    fold after_unit next os
    ≡ moved next (sum_by function_bytes (functions os)) (sum_by initialised_part (variables os)) (sum_by other_part (variables os))
units_passed [] next = next_is _ _ (omega arith) (omega arith) (omega arith)
units_passed (o ∷ os) next =
    units_passed os (after_unit next o)
    ∙ ap (λ n. moved n (sum_by function_bytes (functions os)) (sum_by initialised_part (variables os)) (sum_by other_part (variables os))) (unit_passed next o)
    ∙ next_is _ _
    (let parts = sum_by-append function_bytes o.funs (functions os) in omega (arith, parts))
    (let parts = sum_by-append initialised_part o.vars (variables os) in omega (arith, parts))
    (let parts = sum_by-append other_part o.vars (variables os) in omega (arith, parts))

-- ---- room for one more variable

room_by : (b : Bool) (v p q all_p all_q a o limit : ℕ) → p + (if b then v else 0) ≤ all_p → q + (if b then 0 else v) ≤ all_q
    → a + all_p < limit → o + all_q < limit
    → (v < limit) × ((if b then (a + p) + v else 0) < limit) × ((if b then 0 else (o + q) + v) < limit)
room_by true v p q all_p all_q a o limit x y z w = (omega arith, omega arith, omega arith)
room_by false v p q all_p all_q a o limit x y z w = (omega arith, omega arith, omega arith)

pub room_for : (next : Next) (xs : List TVar) (i : ℕ) (x : TVar) (s : Next) (limit : ℕ) → i < length xs → x ≡ get_or xs i x
    → s ≡ fold after_variable next (take i xs)
    → next.initialised + initialised_size xs < limit → next.others + uninitialised_size xs < limit
    → (variable_bytes x < limit) × ((if is_initialised x then s.initialised + variable_bytes x else 0) < limit)
    × ((if is_initialised x then 0 else s.others + variable_bytes x) < limit)
room_for next xs i x s limit within is e few fewer =
    let at = e ∙ variables_passed (take i xs) next in
    let first = sum_by_more_le initialised_part xs i x within in
    let second = sum_by_more_le other_part xs i x within in
    let same : initialised_part x ≡ initialised_part (get_or xs i x) = ap initialised_part is in
    let other : other_part x ≡ other_part (get_or xs i x) = ap other_part is in
    let all = initialised_is xs in
    let rest = others_are xs in
    subst (λ n. (variable_bytes x < limit) × ((if is_initialised x then n.initialised + variable_bytes x else 0) < limit) × ((if is_initialised x then 0 else n.others + variable_bytes x) < limit)) (sym at)
    (room_by (is_initialised x) (variable_bytes x) (sum_by initialised_part (take i xs)) (sum_by other_part (take i xs)) (initialised_size xs) (uninitialised_size xs) next.initialised next.others limit
    (omega (arith, first, same, all)) (omega (arith, second, other, rest)) few fewer)
