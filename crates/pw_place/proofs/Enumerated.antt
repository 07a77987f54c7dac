-- Lists that are made of another's items, each with its number.
use Rattle.std.proofs.Common.{◌≡◌, ℕ, zero, suc, ◌+◌, ◌<◌, List, [], ◌∷◌, ◌++◌, length, map, take, fold, Some, slice_get, slice_index, option_map, refl, sym, ap, ◌∙◌, subst, add-zero, arith}
use Rattle.std.specs.List.{enumerate_from}
use Rattle.std.proofs.lemmas.List.{append_assoc, length-append}
use Rattle.std.proofs.lemmas.List.Sums.{fold_push}
use Rattle.std.proofs.Math.Seq.{take-append_seam}
use Rattle.pw_place.specs.Steps.Running.{running}

-- an item after others
seam : {X : Type 0} (before : List X) (x : X) (xs : List X) → slice_get (before ++ x ∷ xs) (length before) ≡ Some x
seam [] x xs = refl
seam (y ∷ ys) x xs = seam ys x xs

-- one more stands before the rest
shifted : {X : Type 0} (before : List X) (x : X) (xs : List X) → (before ++ x ∷ []) ++ xs ≡ before ++ x ∷ xs
shifted before x xs = append_assoc before (x ∷ []) xs

counted : {X : Type 0} (before : List X) (x : X) → length (before ++ x ∷ []) ≡ length before + 1
counted before x = length-append before (x ∷ [])

module _ {X Y : Type 0} (f g : ℕ × X → Y) where
  same_from : (before xs : List X) → ((i : ℕ) (x : X) → slice_get (before ++ xs) i ≡ Some x → f (i, x) ≡ g (i, x)) →
      map f (enumerate_from (length before) xs) ≡ map g (enumerate_from (length before) xs)
  same_from before [] e = refl
  same_from before (x ∷ xs) e =
      let rest = same_from (before ++ x ∷ []) xs (λ i y at. e i y (subst (λ l. slice_get l i ≡ Some y) (shifted before x xs) at)) in
      let moved : map f (enumerate_from (length before + 1) xs) ≡ map g (enumerate_from (length before + 1) xs) =
      subst (λ n. map f (enumerate_from n xs) ≡ map g (enumerate_from n xs)) (counted before x) rest in
      (λ j. e (length before) x (seam before x xs) j ∷ moved j)

  -- two ways to make an item of each give one list where they agree at each
  pub same_each : (xs : List X) → ((i : ℕ) (x : X) → slice_get xs i ≡ Some x → f (i, x) ≡ g (i, x)) →
      map f (enumerate_from 0 xs) ≡ map g (enumerate_from 0 xs)
  same_each xs e = same_from [] xs e

-- What is made of the item of a number.
get_from : {X Y : Type 0} (f : ℕ × X → Y) (n : ℕ) (xs : List X) (i : ℕ) →
    slice_get (map f (enumerate_from n xs)) i ≡ option_map (λ x. f (n + i, x)) (slice_get xs i)
get_from f n [] i = refl
get_from f n (x ∷ xs) zero = ap (λ k. Some (f (k, x))) (sym (add-zero n))
get_from f n (x ∷ xs) (suc i) =
    get_from f (n + 1) xs i ∙ ap (λ k. option_map (λ x. f (k, x)) (slice_get xs i)) (omega arith)

pub get_made : {X Y : Type 0} (f : ℕ × X → Y) (xs : List X) (i : ℕ) →
    slice_get (map f (enumerate_from 0 xs)) i ≡ option_map (λ x. f (i, x)) (slice_get xs i)
get_made f xs i = get_from f 0 xs i ∙ ap (λ k. option_map (λ x. f (k, x)) (slice_get xs i)) (omega arith)

-- The same of numbers, which are made of the number alone.
index_from : {X : Type 0} (g : ℕ → ℕ) (n : ℕ) (xs : List X) (i : ℕ) → i < length xs →
    slice_index (map (λ x. g x.0) (enumerate_from n xs)) i ≡ g (n + i)
index_from g n [] i within = absurd (omega (arith, within))
index_from g n (x ∷ xs) zero within = ap g (sym (add-zero n))
index_from g n (x ∷ xs) (suc i) within = index_from g (n + 1) xs i (omega (arith, within)) ∙ ap g (omega arith)

pub index_made : {X : Type 0} (g : ℕ → ℕ) (xs : List X) (i : ℕ) → i < length xs →
    slice_index (map (λ x. g x.0) (enumerate_from 0 xs)) i ≡ g i
index_made g xs i within = index_from g 0 xs i within ∙ ap g (omega arith)

-- What is seen of each item is seen where those before it have passed.
module _ {S X Y : Type 0} (seen : S → X → Y) (after : S → X → S) (s : S) where
  abbrev pub seen_at : List X → ℕ × X → Y
  seen_at all (i, x) = seen (fold after s (take i all)) x

  seen_from : (before xs : List X) →
      running seen after (fold after s before) xs ≡ map (seen_at (before ++ xs)) (enumerate_from (length before) xs)
  seen_from before [] = refl
  seen_from before (x ∷ xs) =
      let rest : running seen after (after (fold after s before) x) xs ≡ map (seen_at (before ++ x ∷ xs)) (enumerate_from (length before + 1) xs) =
      ap (λ t. running seen after t xs) (sym (fold_push after s before x))
      ∙ seen_from (before ++ x ∷ []) xs
      ∙ (λ j. map (seen_at (shifted before x xs j)) (enumerate_from (counted before x j) xs)) in
      let own = sym (take-append_seam before (x ∷ xs)) in
      (λ j. seen (fold after s (own j)) x ∷ rest j)

  pub all_seen : (xs : List X) → running seen after s xs ≡ map (seen_at xs) (enumerate_from 0 xs)
  all_seen xs = seen_from [] xs
