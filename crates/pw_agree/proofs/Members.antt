-- The elements of a list, by recursion over it, and those of lists that are made of others.
use Rattle.std.proofs.Common.{◌≡◌, ℕ, zero, suc, ◌<◌, Bool, true, false, List, [], ◌∷◌, ◌++◌, length, flat_map, get_or, ◌⊎◌, inl, inr, refl, sym, subst, arith}
use Rattle.std.specs.Prelude.{Contains, ◌||◌}
use Rattle.std.specs.List.{AllByRecursion, list_any}

-- an element of a list
abbrev pub IsIn : {X : Type 0} → List X → X → Type 0
IsIn [] x = ⊥
IsIn (y ∷ ys) x = (y ≡ x) ⊎ IsIn ys x

in_at : {X : Type 0} (xs : List X) (x : X) (k : ℕ) → k < length xs → get_or xs k x ≡ x → IsIn xs x
in_at [] x k below is = absurd (omega arith)
in_at (y ∷ ys) x zero below is = inl is
in_at (y ∷ ys) x (suc k) below is = inr (in_at ys x k (omega arith) is)

pub contained_is_in : {X : Type 0} (xs : List X) (x : X) → Contains xs x → IsIn xs x
contained_is_in xs x h = in_at xs x h.0 h.1 h.2

-- what holds of each element
pub each_in : {X : Type 0} (P : X → Type 0) (xs : List X) (x : X) → AllByRecursion P xs → IsIn xs x → P x
each_in P [] x all h = absurd h
each_in P (y ∷ ys) x all (inl e) = subst P e all.0
each_in P (y ∷ ys) x all (inr h) = each_in P ys x all.1 h

-- two lists after one another
pub in_left : {X : Type 0} (xs ys : List X) (x : X) → IsIn xs x → IsIn (xs ++ ys) x
in_left [] ys x h = absurd h
in_left (z ∷ xs) ys x (inl e) = inl e
in_left (z ∷ xs) ys x (inr h) = inr (in_left xs ys x h)

pub in_right : {X : Type 0} (xs ys : List X) (x : X) → IsIn ys x → IsIn (xs ++ ys) x
in_right [] ys x h = h
in_right (z ∷ xs) ys x h = inr (in_right xs ys x h)

-- lists of elements after one another
pub in_flat_map : {X Y : Type 0} (f : X → List Y) (xs : List X) (x : X) (y : Y) → IsIn xs x → IsIn (f x) y → IsIn (flat_map f xs) y
in_flat_map f [] x y h k = absurd h
in_flat_map f (z ∷ xs) x y (inl e) k = in_left (f z) (flat_map f xs) y (subst (λ w. IsIn (f w) y) (sym e) k)
in_flat_map f (z ∷ xs) x y (inr h) k = in_right (f z) (flat_map f xs) y (in_flat_map f xs x y h k)

-- an element that a test finds
pub any_in : {X : Type 0} (test : X → Bool) (xs : List X) (x : X) → IsIn xs x → test x ≡ true → list_any test xs ≡ true
any_in test [] x h passes = absurd h
any_in test (y ∷ ys) x (inl e) passes = rw (e, passes) refl
any_in test (y ∷ ys) x (inr h) passes = rw (any_in test ys x h passes) (either_way (test y))
  where
    either_way : (t : Bool) → t || true ≡ true
    either_way true = refl
    either_way false = refl

-- where a test finds one
module _ {X : Type 0} (P : X → Type 0) (test : X → Bool) (says : (x : X) → test x ≡ true → P x) where
  pub any_gives : (xs : List X) → list_any test xs ≡ true → (x : X) × IsIn xs x × P x
  any_gives [] h = cc
  any_gives (y ∷ ys) h = by_test (test y) refl h (any_gives ys)
    where
      by_test : (t : Bool) → test y ≡ t → t || list_any test ys ≡ true
          → (list_any test ys ≡ true → (x : X) × IsIn ys x × P x) → (x : X) × IsIn (y ∷ ys) x × P x
      by_test true e h rest = (y, inl refl, says y e)
      by_test false e h rest = let found = rest h in (found.0, inr found.1, found.2)
