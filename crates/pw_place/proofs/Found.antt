-- What is found first in lists.
use Rattle.std.proofs.Common.{◌≡◌, ℕ, suc, ◌+◌, ◌<◌, Bool, true, false, cond, not, ◌||◌, List, [], ◌∷◌, length, drop, get_or, flat_map, find, Some, is_some, slice_get, refl, sym, ap, subst, ◌∙◌, arith, add-one}
use Rattle.std.specs.List.{list_any, AllByRecursion, position_or_len}
use Rattle.std.specs.Option.{option_or}
use Rattle.std.proofs.Math.Seq.{drop-cons}
use Rattle.std.proofs.lemmas.List.Folds.{find-append}

-- Where the first item stands that passes a test.
pub get_found : {A : Type 0} (p : A → Bool) (xs : List A) → slice_get xs (position_or_len p xs) ≡ find p xs
get_found p [] = refl
get_found p (x ∷ xs) = found_by p x xs (get_found p xs) (p x)
  where
    found_by : {A : Type 0} (p : A → Bool) (x : A) (xs : List A) → slice_get xs (position_or_len p xs) ≡ find p xs → (b : Bool)
        → slice_get (x ∷ xs) (cond (not b) (1 + position_or_len p xs) 0) ≡ cond b (Some x) (find p xs)
    found_by p x xs rest true = refl
    found_by p x xs rest false =
        let e : suc (position_or_len p xs) ≡ 1 + position_or_len p xs = omega arith in
        subst (λ k. slice_get (x ∷ xs) k ≡ find p xs) e rest

-- An item is found where one passes.
pub found_any : {A : Type 0} (p : A → Bool) (xs : List A) → is_some (find p xs) ≡ list_any p xs
found_any p [] = refl
found_any p (x ∷ xs) = by (p x) (found_any p xs)
  where
    by : (b : Bool) → is_some (find p xs) ≡ list_any p xs → is_some (cond b (Some x) (find p xs)) ≡ (b || list_any p xs)
    by true h = refl
    by false h = h

-- Two tests that agree on a list find the same.
pub found_same : {A : Type 0} (p q : A → Bool) (xs : List A) → AllByRecursion (λ x. p x ≡ q x) xs → find p xs ≡ find q xs
found_same p q [] all = refl
found_same p q (x ∷ xs) all = λ i. cond (all.0 i) (Some x) (found_same p q xs all.1 i)

-- What is found in the parts that are left: in the first of them, or in the others.
pub found_more : {A B : Type 0} (p : B → Bool) (part : A → List B) (xs : List A) (i : ℕ) (x : A) → i < length xs → x ≡ get_or xs i x →
    find p (flat_map part (drop i xs)) ≡ option_or (find p (part x)) (find p (flat_map part (drop (i + 1) xs)))
found_more p part xs i x within is =
    ap (λ l. find p (flat_map part l)) (drop-cons xs i x within ∙ (λ j. sym is j ∷ drop (sym (add-one i) j) xs))
    ∙ find-append p (part x) (flat_map part (drop (i + 1) xs))
