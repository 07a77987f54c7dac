-- Elements of lists that are made of others, by their places.
use Rattle.std.proofs.Common.{◌≡◌, ℕ, zero, suc, ◌+◌, ◌<◌, ◌≤◌, List, [], ◌∷◌, ◌++◌, length, map, take, Some, ◌⊎◌, inl, inr, refl, sym, ◌∙◌, ap, arith}
use Rattle.std.specs.Prelude.{slice_get, sum_by, replicate, option_map}
use Rattle.std.proofs.lemmas.List.Sums.{sum_by-cons}
use Rattle.pw_simulation.specs.ImageWorld.{joined}

-- ---- one list after another

pub get_left : {X : Type 0} (xs ys : List X) (k : ℕ) → k < length xs → slice_get (xs ++ ys) k ≡ slice_get xs k
get_left [] ys k h = absurd (omega arith)
get_left (x ∷ xs) ys zero h = refl
get_left (x ∷ xs) ys (suc k) h = get_left xs ys k (omega arith)

pub get_right : {X : Type 0} (xs ys : List X) (k : ℕ) → slice_get (xs ++ ys) (length xs + k) ≡ slice_get ys k
get_right [] ys k = let e : 0 + k ≡ k = omega arith in rw e refl
get_right (x ∷ xs) ys k = let e : suc (length xs) + k ≡ suc (length xs + k) = omega arith in rw e (get_right xs ys k)

pub length_both : {X : Type 0} (xs ys : List X) → length (xs ++ ys) ≡ length xs + length ys
length_both [] ys = omega arith
length_both (x ∷ xs) ys = omega (arith, length_both xs ys)

-- ---- what is at a place

pub got_below : {X : Type 0} (xs : List X) (k : ℕ) (x : X) → slice_get xs k ≡ Some x → k < length xs
got_below [] k x h = cc
got_below (y ∷ ys) zero x h = omega arith
got_below (y ∷ ys) (suc k) x h = let r = got_below ys k x h in omega arith

pub got_of_map : {X Y : Type 0} (f : X → Y) (xs : List X) (k : ℕ) → slice_get (map f xs) k ≡ option_map f (slice_get xs k)
got_of_map f [] k = refl
got_of_map f (x ∷ xs) zero = refl
got_of_map f (x ∷ xs) (suc k) = got_of_map f xs k

pub got_of_copies : {X : Type 0} (n : ℕ) (x : X) (k : ℕ) → k < n → slice_get (replicate n x) k ≡ Some x
got_of_copies zero x k h = absurd (omega arith)
got_of_copies (suc n) x zero h = refl
got_of_copies (suc n) x (suc k) h = got_of_copies n x k (omega arith)

pub length_of_copies : {X : Type 0} (n : ℕ) (x : X) → length (replicate n x) ≡ n
length_of_copies zero x = refl
length_of_copies (suc n) x = ap suc (length_of_copies n x)

pub length_of_map : {X Y : Type 0} (f : X → Y) (xs : List X) → length (map f xs) ≡ length xs
length_of_map f [] = refl
length_of_map f (x ∷ xs) = ap suc (length_of_map f xs)

-- ---- sums

pub sum_more : {X : Type 0} (f : X → ℕ) (x : X) (xs : List X) → sum_by f (x ∷ xs) ≡ f x + sum_by f xs
sum_more f x xs = sum_by-cons f x xs

-- a part of a list and the element after it have no greater sum than the list
pub sum_before : {X : Type 0} (f : X → ℕ) (xs : List X) (k : ℕ) (x : X) → slice_get xs k ≡ Some x → sum_by f (take k xs) + f x ≤ sum_by f xs
sum_before f [] k x h = cc
sum_before f (y ∷ ys) zero x h =
    let same : f y ≡ f x = let e : y ≡ x = cc in ap f e in omega (arith, sum_more f y ys)
sum_before f (y ∷ ys) (suc k) x h = let r = sum_before f ys k x h in omega (arith, sum_more f y ys, sum_more f y (take k ys))

pub sum_part : {X : Type 0} (f : X → ℕ) (xs : List X) (k : ℕ) → sum_by f (take k xs) ≤ sum_by f xs
sum_part f [] zero = omega arith
sum_part f [] (suc k) = omega arith
sum_part f (y ∷ ys) zero = omega arith
sum_part f (y ∷ ys) (suc k) = let r = sum_part f ys k in omega (arith, sum_more f y ys, sum_more f y (take k ys))

-- and no greater one than a longer part
pub sum_within : {X : Type 0} (f : X → ℕ) (xs : List X) (k n : ℕ) (x : X) → slice_get xs k ≡ Some x → k < n → sum_by f (take k xs) + f x ≤ sum_by f (take n xs)
sum_within f [] k n x h less = cc
sum_within f (y ∷ ys) k zero x h less = absurd (omega arith)
sum_within f (y ∷ ys) zero (suc n) x h less =
    let same : f y ≡ f x = let e : y ≡ x = cc in ap f e in omega (arith, sum_more f y (take n ys))
sum_within f (y ∷ ys) (suc k) (suc n) x h less =
    let r = sum_within f ys k n x h (omega arith) in omega (arith, sum_more f y (take n ys), sum_more f y (take k ys))

-- ---- what numbered items give

module _ {A B : Type 0} (part : ℕ → A → List B) (weight : A → ℕ) (fits : (n : ℕ) (x : A) → length (part n x) ≡ weight x) where
  pub length_of_joined : (n : ℕ) (xs : List A) → length (joined part n xs) ≡ sum_by weight xs
  length_of_joined n [] = refl
  length_of_joined n (x ∷ xs) =
      length_both (part n x) (joined part (suc n) xs) ∙ omega (arith, fits n x, length_of_joined (suc n) xs, sum_more weight x xs)

  -- an element of what an item gives stands after all that the items before it give
  pub joined_at : (n : ℕ) (xs : List A) (j : ℕ) (x : A) → slice_get xs j ≡ Some x → (k : ℕ) → k < weight x
      → slice_get (joined part n xs) (sum_by weight (take j xs) + k) ≡ slice_get (part (n + j) x) k
  joined_at n [] j x there k below = cc
  joined_at n (y ∷ ys) zero x there k below =
      let same : y ≡ x = cc in
      let start : 0 + k ≡ k = omega arith in
      let number : n + 0 ≡ n = omega arith in
      let short : k < length (part n y) = let w : weight y ≡ weight x = ap weight same in omega (arith, fits n y) in
      rw start (get_left (part n y) (joined part (suc n) ys) k short ∙ ap (λ z. slice_get (part n z) k) same ∙ ap (λ i. slice_get (part i x) k) (sym number))
  joined_at n (y ∷ ys) (suc j) x there k below =
      let next : suc n + j ≡ n + suc j = omega arith in
      let place : sum_by weight (take (suc j) (y ∷ ys)) + k ≡ length (part n y) + (sum_by weight (take j ys) + k) = omega (arith, fits n y, sum_more weight y (take j ys)) in
      ap (slice_get (joined part n (y ∷ ys))) place ∙ get_right (part n y) (joined part (suc n) ys) (sum_by weight (take j ys) + k)
      ∙ joined_at (suc n) ys j x there k below ∙ ap (λ i. slice_get (part i x) k) next

-- where an element of what items give comes from
pub record IsFrom {A B : Type 0} (part : ℕ → A → List B) (weight : A → ℕ) (n : ℕ) (xs : List A) (k : ℕ) (b : B) : Type 0 where
  pub number : ℕ
  pub item : A
  pub there : slice_get xs number ≡ Some item
  pub inner : ℕ
  pub place : k ≡ sum_by weight (take number xs) + inner
  pub got : slice_get (part (n + number) item) inner ≡ Some b

pub either_side : {X : Type 0} (xs ys : List X) (k : ℕ) (x : X) → slice_get (xs ++ ys) k ≡ Some x
    → (slice_get xs k ≡ Some x) ⊎ ((r : ℕ) × (k ≡ length xs + r) × (slice_get ys r ≡ Some x))
either_side [] ys k x h = inr (k, omega arith, h)
either_side (y ∷ xs) ys zero x h = inl h
either_side (y ∷ xs) ys (suc k) x h = next (either_side xs ys k x h)
  where
    next : (slice_get xs k ≡ Some x) ⊎ ((r : ℕ) × (k ≡ length xs + r) × (slice_get ys r ≡ Some x))
        → (slice_get xs k ≡ Some x) ⊎ ((r : ℕ) × (suc k ≡ suc (length xs) + r) × (slice_get ys r ≡ Some x))
    next (inl e) = inl e
    next (inr e) = inr (e.0, let p = e.1 in omega arith, e.2)

module _ {A B : Type 0} (part : ℕ → A → List B) (weight : A → ℕ) (fits : (n : ℕ) (x : A) → length (part n x) ≡ weight x) where
  from_by : (n : ℕ) (x : A) (xs : List A) (k : ℕ) (b : B) → ((r : ℕ) → slice_get (joined part (suc n) xs) r ≡ Some b → IsFrom part weight (suc n) xs r b)
      → (slice_get (part n x) k ≡ Some b) ⊎ ((r : ℕ) × (k ≡ length (part n x) + r) × (slice_get (joined part (suc n) xs) r ≡ Some b)) → IsFrom part weight n (x ∷ xs) k b
  from_by n x xs k b rest (inl e) =
      let here : n + 0 ≡ n = omega arith in
      record { number = 0; item = x; there = refl; inner = k; place = omega arith; got = ap (λ i. slice_get (part i x) k) here ∙ e }
  from_by n x xs k b rest (inr e) =
      let r = rest e.0 e.2 in
      let next : suc n + r.number ≡ n + suc r.number = omega arith in
      record {
        number = suc r.number;
        item = r.item;
        there = r.there;
        inner = r.inner;
        place = let p = r.place in let q = e.1 in omega (arith, fits n x, sum_more weight x (take r.number xs));
        got = ap (λ i. slice_get (part i r.item) r.inner) (sym next) ∙ r.got;
      }

  pub joined_from : (n : ℕ) (xs : List A) (k : ℕ) (b : B) → slice_get (joined part n xs) k ≡ Some b → IsFrom part weight n xs k b
  joined_from n [] k b h = cc
  joined_from n (x ∷ xs) k b h = from_by n x xs k b (λ r g. joined_from (suc n) xs r b g) (either_side (part n x) (joined part (suc n) xs) k b h)
