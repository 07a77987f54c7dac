-- Facts about plain lists: what a filter keeps before a place, and lists in which all pass a test, or none.
use Rattle.std.proofs.Common.{◌≡◌, ℕ, zero, suc, ◌+◌, ◌*◌, ◌≤◌, Bool, true, false, cond, List, [], ◌∷◌, ◌++◌, map, length, take, Some, refl, sym, ap, ◌∙◌, arith, bytes_eq, Decides}
use Rattle.std.specs.Prelude.{slice_get, sum_by}
use Rattle.std.specs.List.{AllByRecursion, filter, prefix_len}
use Rattle.std.proofs.lemmas.Bool.Decides.{same_from_decides}
use Rattle.std.proofs.lemmas.Slice.Eq.{bytes_eq-Decides}
use Rattle.std.proofs.lemmas.List.Sums.{sum_by-cons}

-- ---- equal texts

pub bytes_eq_sym : (a b : List ℕ) → bytes_eq a b ≡ bytes_eq b a
bytes_eq_sym a b =
    let there = bytes_eq-Decides b a in
    let back : Decides (bytes_eq b a) (a ≡ b) = (λ e. sym (there.0 e), λ e. there.1 (sym e)) in
    same_from_decides _ _ (bytes_eq-Decides a b) back

-- ---- tests and functions that agree

pub filter_same : {X : Type 0} (p q : X → Bool) → ((x : X) → p x ≡ q x) → (xs : List X) → filter p xs ≡ filter q xs
filter_same p q h [] = refl
filter_same p q h (x ∷ xs) = λ i. cond (h x i) (x ∷ filter_same p q h xs i) (filter_same p q h xs i)

pub prefix_same : {X : Type 0} (p q : X → Bool) → ((x : X) → p x ≡ q x) → (xs : List X) → prefix_len p xs ≡ prefix_len q xs
prefix_same p q h [] = refl
prefix_same p q h (x ∷ xs) = λ i. cond (h x i) (1 + prefix_same p q h xs i) 0

pub sum_by_map : {X Y : Type 0} (g : Y → ℕ) (f : X → Y) (h : X → ℕ) → ((x : X) → g (f x) ≡ h x) → (xs : List X) → sum_by g (map f xs) ≡ sum_by h xs
sum_by_map g f h e [] = refl
sum_by_map g f h e (x ∷ xs) =
    sum_by-cons g (f x) (map f xs) ∙ (λ i. e x i + sum_by_map g f h e xs i) ∙ sym (sum_by-cons h x xs)

pub sum_by_times : {X : Type 0} (k : ℕ) (f : X → ℕ) (xs : List X) → sum_by (λ x. k * f x) xs ≡ k * sum_by f xs
sum_by_times k f [] = omega arith
sum_by_times k f (x ∷ xs) =
    sum_by-cons (λ y. k * f y) x xs ∙ ap (λ n. k * f x + n) (sum_by_times k f xs)
    ∙ (let e : k * f x + k * sum_by f xs ≡ k * (f x + sum_by f xs) = grind arith in e) ∙ ap (λ n. k * n) (sym (sum_by-cons f x xs))

-- ---- what a filter keeps before a place

module _ {X : Type 0} (p : X → Bool) where
  at_head : (b : Bool) (y x : X) (ys : List X) → b ≡ true → y ≡ x → slice_get (cond b (y ∷ ys) ys) 0 ≡ Some x
  at_head true y x ys b e = ap Some e
  at_head false y x ys b e = cc

  at_tail : (b : Bool) (y x : X) (ys zs : List X) → slice_get ys (length zs) ≡ Some x →
      slice_get (cond b (y ∷ ys) ys) (length (cond b (y ∷ zs) zs)) ≡ Some x
  at_tail true y x ys zs h = h
  at_tail false y x ys zs h = h

  -- An element that passes a test stands among those that pass behind those before it.
  pub among_passed : (xs : List X) (i : ℕ) (x : X) → slice_get xs i ≡ Some x → p x ≡ true →
      slice_get (filter p xs) (length (filter p (take i xs))) ≡ Some x
  among_passed [] i x h q = cc
  among_passed (y ∷ xs) zero x h q = let e : y ≡ x = cc in at_head (p y) y x (filter p xs) (ap p e ∙ q) e
  among_passed (y ∷ xs) (suc i) x h q = at_tail (p y) y x (filter p xs) (filter p (take i xs)) (among_passed xs i x h q)

  taken : (b : Bool) (y : X) (ys zs : List X) → take (length zs) ys ≡ zs → take (length (cond b (y ∷ zs) zs)) (cond b (y ∷ ys) ys) ≡ cond b (y ∷ zs) zs
  taken true y ys zs h = ap (λ l. y ∷ l) h
  taken false y ys zs h = h

  -- Those that pass before a place are the first of those that pass.
  pub take_passed : (xs : List X) (i : ℕ) → take (length (filter p (take i xs))) (filter p xs) ≡ filter p (take i xs)
  take_passed xs zero = refl
  take_passed [] (suc i) = refl
  take_passed (x ∷ xs) (suc i) = taken (p x) x (filter p xs) (filter p (take i xs)) (take_passed xs i)

  fewer : (b : Bool) (y : X) (ys zs : List X) → length zs ≤ length ys → length (cond b (y ∷ zs) zs) ≤ length (cond b (y ∷ ys) ys)
  fewer true y ys zs h = omega arith
  fewer false y ys zs h = h

  pub few_passed : (xs : List X) (i : ℕ) → length (filter p (take i xs)) ≤ length (filter p xs)
  few_passed xs zero = omega arith
  few_passed [] (suc i) = omega arith
  few_passed (x ∷ xs) (suc i) = fewer (p x) x (filter p xs) (filter p (take i xs)) (few_passed xs i)

  -- ---- all pass, or none

  kept_whole : (b : Bool) (x : X) (ys zs : List X) → b ≡ true → ys ≡ zs → cond b (x ∷ ys) ys ≡ x ∷ zs
  kept_whole true x ys zs b e = ap (λ l. x ∷ l) e
  kept_whole false x ys zs b e = cc

  pub all_pass : (xs : List X) → AllByRecursion (λ x. p x ≡ true) xs → filter p xs ≡ xs
  all_pass [] h = refl
  all_pass (x ∷ xs) h = kept_whole (p x) x (filter p xs) xs h.0 (all_pass xs h.1)

  left_whole : (b : Bool) (x : X) (ys : List X) → b ≡ false → ys ≡ [] → cond b (x ∷ ys) ys ≡ []
  left_whole true x ys b e = cc
  left_whole false x ys b e = e

  pub none_pass : (xs : List X) → AllByRecursion (λ x. p x ≡ false) xs → filter p xs ≡ []
  none_pass [] h = refl
  none_pass (x ∷ xs) h = left_whole (p x) x (filter p xs) h.0 (none_pass xs h.1)

pub each_taken : {X : Type 0} (P : X → Type 0) (i : ℕ) (xs : List X) → AllByRecursion P xs → AllByRecursion P (take i xs)
each_taken P zero xs h = tt
each_taken P (suc i) [] h = tt
each_taken P (suc i) (x ∷ xs) h = (h.0, each_taken P i xs h.1)

-- ---- two lists, one behind the other

pub slice_front : {X : Type 0} (xs ys : List X) (i : ℕ) (x : X) → slice_get xs i ≡ Some x → slice_get (xs ++ ys) i ≡ Some x
slice_front [] ys i x h = cc
slice_front (y ∷ xs) ys zero x h = h
slice_front (y ∷ xs) ys (suc i) x h = slice_front xs ys i x h

pub slice_behind : {X : Type 0} (xs ys : List X) (i : ℕ) → slice_get (xs ++ ys) (length xs + i) ≡ slice_get ys i
slice_behind [] ys i = ap (slice_get ys) (let e : 0 + i ≡ i = omega arith in e)
slice_behind (x ∷ xs) ys i =
    ap (slice_get (x ∷ (xs ++ ys))) (let e : suc (length xs) + i ≡ suc (length xs + i) = omega arith in e) ∙ slice_behind xs ys i

pub take_behind : {X : Type 0} (xs ys : List X) (i : ℕ) → take (length xs + i) (xs ++ ys) ≡ xs ++ take i ys
take_behind [] ys i = ap (λ n. take n ys) (let e : 0 + i ≡ i = omega arith in e)
take_behind (x ∷ xs) ys i =
    ap (λ n. take n (x ∷ (xs ++ ys))) (let e : suc (length xs) + i ≡ suc (length xs + i) = omega arith in e) ∙ ap (λ l. x ∷ l) (take_behind xs ys i)
