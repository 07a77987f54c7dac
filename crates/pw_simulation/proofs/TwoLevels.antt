-- Places of items that stand in lists inside a list: what stands before each, and that different items have different places.
use Rattle.std.proofs.Common.{◌≡◌, ℕ, zero, suc, ◌+◌, ◌<◌, ◌≤◌, List, [], take, Option, Some, None, ◌⊎◌, inl, inr, refl, sym, ◌∙◌, ap, subst, arith}
use Rattle.std.specs.Prelude.{slice_get, sum_by}
use Rattle.std.specs.Option.{option_map_or}
use Rattle.pw_simulation.proofs.Joined.{sum_before, sum_part, sum_within}

-- one of two numbers is less, or they are one
pub compare : (a b : ℕ) → (a < b) ⊎ ((a ≡ b) ⊎ (b < a))
compare a b = grind arith

-- a value in an option
pub some_same : {A : Type 0} (x y : A) → Some x ≡ Some y → x ≡ y
some_same x y h = cc

module _ {U X : Type 0} (inner : U → List X) (weight : X → ℕ) where
  -- the sum of the weights of all items
  abbrev pub total : List U → ℕ
  total units = sum_by (λ unit. sum_by weight (inner unit)) units

  -- the sum of the weights of the items before one
  abbrev pub place : List U → (u i : ℕ) → ℕ
  place units u i = total (take u units) + sum_by weight (take i (option_map_or inner (slice_get units u) []))

  -- an item of a list
  pub record IsItem (units : List U) (u i : ℕ) (x : X) : Type 0 where
    pub unit : U
    pub unit_there : slice_get units u ≡ Some unit
    pub there : slice_get (inner unit) i ≡ Some x

  place_is : (units : List U) (u i : ℕ) (unit : U) → slice_get units u ≡ Some unit → place units u i ≡ total (take u units) + sum_by weight (take i (inner unit))
  place_is units u i unit there = ap (λ o. total (take u units) + sum_by weight (take i (option_map_or inner o []))) there

  pub place_end : (units : List U) (u i : ℕ) (x : X) → IsItem units u i x → place units u i + weight x ≤ total units
  place_end units u i x item =
      let within = sum_before weight (inner item.unit) i x item.there in
      let before = sum_before (λ unit. sum_by weight (inner unit)) units u item.unit item.unit_there in
      omega (arith, place_is units u i item.unit item.unit_there)

  any_by : (units : List U) (u i : ℕ) (o : Option U) → slice_get units u ≡ o → total (take u units) + sum_by weight (take i (option_map_or inner o [])) ≤ total units
  any_by units u i None there = let r = sum_part (λ unit. sum_by weight (inner unit)) units u in let none : sum_by weight (take i []) ≡ 0 = nothing i in omega (arith, none)
    where
      nothing : (i : ℕ) → sum_by weight (take i []) ≡ 0
      nothing zero = refl
      nothing (suc i) = refl
  any_by units u i (Some unit) there =
      let within = sum_part weight (inner unit) i in
      let before = sum_before (λ unit. sum_by weight (inner unit)) units u unit there in omega arith

  pub place_any : (units : List U) (u i : ℕ) → place units u i ≤ total units
  place_any units u i = any_by units u i (slice_get units u) refl

  -- an item of an earlier list stands before another
  lists_differ : (units : List U) (u i v j : ℕ) (x y : X) → IsItem units u i x → IsItem units v j y → u < v → place units u i + weight x ≤ place units v j
  lists_differ units u i v j x y a b less =
      let within = sum_before weight (inner a.unit) i x a.there in
      let before = sum_within (λ unit. sum_by weight (inner unit)) units u v a.unit a.unit_there less in
      omega (arith, place_is units u i a.unit a.unit_there)

  -- and so does an earlier item of one list
  items_follow : (units : List U) (u i j : ℕ) (x y : X) → IsItem units u i x → IsItem units u j y → i < j → place units u i + weight x ≤ place units u j
  items_follow units u i j x y a b less =
      let within = sum_within weight (inner a.unit) i j x a.there less in
      omega (arith, place_is units u i a.unit a.unit_there, place_is units u j a.unit a.unit_there)

  -- what two items have in common: all, if one of their parts has one place
  pub record IsOne (u i p v j q : ℕ) : Type 0 where
    pub lists : u ≡ v
    pub items : i ≡ j
    pub parts : p ≡ q

  same_list : (units : List U) (u i j p q : ℕ) (x y : X) → IsItem units u i x → IsItem units u j y → p < weight x → q < weight y
      → place units u i + p ≡ place units u j + q → (i < j) ⊎ ((i ≡ j) ⊎ (j < i)) → IsOne u i p u j q
  same_list units u i j p q x y a b hp hq h (inl less) = let r = items_follow units u i j x y a b less in absurd (omega arith)
  same_list units u i j p q x y a b hp hq h (inr (inr less)) = let r = items_follow units u j i y x b a less in absurd (omega arith)
  same_list units u i j p q x y a b hp hq h (inr (inl e)) =
      record { lists = refl; items = e; parts = let s : place units u i ≡ place units u j = ap (place units u) e in omega arith }

  by_list : (units : List U) (u i v j p q : ℕ) (x y : X) → IsItem units u i x → IsItem units v j y → p < weight x → q < weight y
      → place units u i + p ≡ place units v j + q → (u < v) ⊎ ((u ≡ v) ⊎ (v < u)) → IsOne u i p v j q
  by_list units u i v j p q x y a b hp hq h (inl less) = let r = lists_differ units u i v j x y a b less in absurd (omega arith)
  by_list units u i v j p q x y a b hp hq h (inr (inr less)) = let r = lists_differ units v j u i y x b a less in absurd (omega arith)
  by_list units u i v j p q x y a b hp hq h (inr (inl e)) =
      let c : IsItem units u j y = subst (λ k. IsItem units k j y) (sym e) b in
      let h2 : place units u i + p ≡ place units u j + q = h ∙ ap (λ k. place units k j + q) (sym e) in
      subst (λ k. IsOne u i p k j q) e (same_list units u i j p q x y a c hp hq h2 (compare i j))

  -- two parts of items that have one place are one part of one item
  pub items_differ : (units : List U) (u i v j p q : ℕ) (x y : X) → IsItem units u i x → IsItem units v j y → p < weight x → q < weight y
      → place units u i + p ≡ place units v j + q → IsOne u i p v j q
  items_differ units u i v j p q x y a b hp hq h = by_list units u i v j p q x y a b hp hq h (compare u v)
