-- Sums over the parts of lists that stand in a list, and of the items that pass a test.
use Rattle.std.proofs.Common.{◌≡◌, ℕ, ◌+◌, ◌<◌, ◌≤◌, not, cond, List, [], ◌∷◌, ◌++◌, length, take, get_or, flat_map, sum_by, map, refl, sym, ap, ◌∙◌, arith}
use Rattle.std.proofs.lemmas.List.Sums.{sum_by-append, sum_by-cons, sum_by_more_le}
use Rattle.std.proofs.lemmas.Grind.{flat_map-append}
use Rattle.std.proofs.lemmas.List.{take_more}
use Rattle.std.specs.List.{position_or_len}
use Rattle.std.specs.Str.{bytes_eq}
use Rattle.pw_tree.specs.declared.tunit.Ext.{Ext}

module _ {A B : Type 0} (f : B → ℕ) (g : A → List B) where
  pub sum_flat : (xs : List A) → sum_by f (flat_map g xs) ≡ sum_by (λ x. sum_by f (g x)) xs
  sum_flat [] = refl
  sum_flat (x ∷ xs) =
      sum_by-append f (g x) (flat_map g xs)
      ∙ ap (λ n. sum_by f (g x) + n) (sum_flat xs)
      ∙ sym (sum_by-cons (λ y. sum_by f (g y)) x xs)

  -- the sum so far and that of the next part are within the whole sum
  pub parts_le : (xs : List A) (i : ℕ) (x : A) → i < length xs → x ≡ get_or xs i x →
      sum_by f (flat_map g (take i xs)) + sum_by f (g x) ≤ sum_by f (flat_map g xs)
  parts_le xs i x within is =
      let one = sum_by_more_le (λ y. sum_by f (g y)) xs i x within in
      let part : sum_by f (g x) ≡ sum_by f (g (get_or xs i x)) = ap (λ y. sum_by f (g y)) is in
      let before = sum_flat (take i xs) in
      let all = sum_flat xs in
      omega (arith, one, part, before, all)

  -- the sum of one part more
  pub parts_more : (xs : List A) (i : ℕ) (x : A) → i < length xs → x ≡ get_or xs i x →
      sum_by f (flat_map g (take (i + 1) xs)) ≡ sum_by f (flat_map g (take i xs)) + sum_by f (g x)
  parts_more xs i x within is =
      let more : take (i + 1) xs ≡ take i xs ++ x ∷ [] = take_more xs i x within ∙ ap (λ y. take i xs ++ y ∷ []) (sym is) in
      let parts : sum_by f (flat_map g (take (i + 1) xs)) ≡ sum_by f (flat_map g (take i xs) ++ flat_map g (x ∷ [])) =
      ap (λ ys. sum_by f (flat_map g ys)) more ∙ ap (sum_by f) (flat_map-append g (take i xs) (x ∷ [])) in
      let two = sum_by-append f (flat_map g (take i xs)) (flat_map g (x ∷ [])) in
      let one : sum_by f (flat_map g (x ∷ [])) ≡ sum_by (λ y. sum_by f (g y)) (x ∷ []) = sum_flat (x ∷ []) in
      let own = sum_by-cons (λ y. sum_by f (g y)) x [] in
      omega (arith, parts, two, one, own)

-- Where a name stands among entries.
pub entry_number : (name : List ℕ) (entries : List Ext) →
    position_or_len (bytes_eq name) (map (λ n. n.name) entries) ≡ position_or_len (λ n. bytes_eq name n.name) entries
entry_number name [] = refl
entry_number name (n ∷ entries) = ap (λ k. cond (not (bytes_eq name n.name)) (1 + k) 0) (entry_number name entries)
