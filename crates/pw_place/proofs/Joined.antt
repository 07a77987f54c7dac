-- Items that join a list one after another, each key once, are the first of each.
use Rattle.std.proofs.Common.{◌≡◌, ℕ, Bool, true, false, not, ◌&&◌, ◌||◌, if◌then◌else◌, List, [], ◌∷◌, ◌++◌, filter, fold, flat_map, refl, sym, ap, subst, ◌∙◌, append_assoc}
use Rattle.std.specs.List.{list_any}
use Rattle.std.specs.Str.{bytes_eq}
use Rattle.std.specs.Cmp.Lexicographic.{bytes_decides}
use Rattle.std.proofs.lemmas.List.{append-nil}
use Rattle.std.proofs.lemmas.List.Sums.{fold-append}
use Rattle.pw_place.specs.Names.{first_of_each}

-- one more item
filters_more : {A : Type 0} (p q r : A → Bool) (x : A) (xs : List A) → r x ≡ (q x && p x) → filter p (filter q xs) ≡ filter r xs
    → (a b : Bool) → q x ≡ a → p x ≡ b → filter p (filter q (x ∷ xs)) ≡ filter r (x ∷ xs)
filters_more p q r x xs e rest true true h k = rw (e, h, k) (ap (λ l. x ∷ l) rest)
filters_more p q r x xs e rest true false h k = rw (e, h, k) rest
filters_more p q r x xs e rest false b h k = rw (e, h) rest

-- A filter of a filter is one filter, by a test that is both.
filters : {A : Type 0} (p q r : A → Bool) → ((x : A) → r x ≡ (q x && p x)) → (xs : List A) → filter p (filter q xs) ≡ filter r xs
filters p q r e [] = refl
filters p q r e (x ∷ xs) = filters_more p q r x xs (e x) (filters p q r e xs) (q x) (p x) refl refl

-- A filter that lets all pass.
pub passes : {A : Type 0} (xs : List A) → filter (λ _. true) xs ≡ xs
passes [] = refl
passes (x ∷ xs) = ap (λ l. x ∷ l) (passes xs)

-- A fold over lists that stand in a list.
pub fold_flat : {A B C : Type 0} (f : C → B → C) (g : A → List B) (c : C) (xs : List A) →
    fold (λ c x. fold f c (g x)) c xs ≡ fold f c (flat_map g xs)
fold_flat f g c [] = refl
fold_flat f g c (x ∷ xs) = fold_flat f g (fold f c (g x)) xs ∙ sym (fold-append f c (g x) (flat_map g xs))

module _ {A : Type 0} (key : A → List ℕ) where
  abbrev pub same_key : A → A → Bool
  same_key a b = bytes_eq (key a) (key b)

  -- An item joins others, unless one of them has its key.
  abbrev pub joined_by : List A → A → List A
  joined_by xs x = if list_any (same_key x) xs then xs else xs ++ x ∷ []

  -- No item of a list has this one's key.
  abbrev lacks : List A → A → Bool
  lacks xs x = not (list_any (same_key x) xs)

  -- where an item's key is among others', an item whose key is not has another key
  others : (acc : List A) (x y : A) → list_any (same_key x) acc ≡ true → lacks acc y ≡ (not (same_key y x) && lacks acc y)
  others acc x y there = by (same_key y x) refl
    where
      by : (b : Bool) → same_key y x ≡ b → lacks acc y ≡ (not (same_key y x) && lacks acc y)
      by false e = rw e refl
      by true e =
          let same : list_any (same_key y) acc ≡ true =
          subst (λ k. list_any (λ z. bytes_eq k (key z)) acc ≡ true) (sym ((bytes_decides (key y) (key x)).0 e)) there in
          rw (e, same) refl

  any-append : (p : A → Bool) (xs ys : List A) → list_any p (xs ++ ys) ≡ (list_any p xs || list_any p ys)
  any-append p [] ys = refl
  any-append p (x ∷ xs) ys = by (p x) (any-append p xs ys)
    where
      by : (b : Bool) → list_any p (xs ++ ys) ≡ (list_any p xs || list_any p ys) →
          (b || list_any p (xs ++ ys)) ≡ ((b || list_any p xs) || list_any p ys)
      by true h = refl
      by false h = h

  one_more : (acc : List A) (x y : A) → lacks (acc ++ x ∷ []) y ≡ (not (same_key y x) && lacks acc y)
  one_more acc x y = ap not (any-append (same_key y) acc (x ∷ [])) ∙ by (list_any (same_key y) acc) (same_key y x)
    where
      by : (a b : Bool) → not (a || (b || false)) ≡ (not b && not a)
      by true true = refl
      by true false = refl
      by false true = refl
      by false false = refl

  -- one more item joins
  joins_more : (x : A) (xs acc : List A) →
      ((acc : List A) → fold joined_by acc xs ≡ acc ++ filter (lacks acc) (first_of_each same_key xs))
      → (b : Bool) → list_any (same_key x) acc ≡ b →
      fold joined_by acc (x ∷ xs) ≡ acc ++ filter (lacks acc) (x ∷ filter (λ y. not (same_key y x)) (first_of_each same_key xs))
  joins_more x xs acc rest true there =
      let firsts : List A = first_of_each same_key xs in
      let same = filters (lacks acc) (λ y. not (same_key y x)) (lacks acc) (λ y. others acc x y there) firsts in
      rw there (rest acc ∙ ap (λ l. acc ++ l) (sym same))
  joins_more x xs acc rest false there =
      let firsts : List A = first_of_each same_key xs in
      let same = filters (lacks acc) (λ y. not (same_key y x)) (lacks (acc ++ x ∷ [])) (one_more acc x) firsts in
      rw there (rest (acc ++ x ∷ []) ∙ append_assoc acc (x ∷ []) _ ∙ ap (λ l. acc ++ x ∷ l) (sym same))

  joins : (xs acc : List A) → fold joined_by acc xs ≡ acc ++ filter (lacks acc) (first_of_each same_key xs)
  unfolding first_of_each
  joins [] acc = sym (append-nil acc)
  joins (x ∷ xs) acc = joins_more x xs acc (λ acc. joins xs acc) (list_any (same_key x) acc) refl

  -- Items that join nothing are the first of each key.
  pub all_joined_are_first : (xs : List A) → fold joined_by [] xs ≡ first_of_each same_key xs
  all_joined_are_first xs = joins xs [] ∙ passes (first_of_each same_key xs)
