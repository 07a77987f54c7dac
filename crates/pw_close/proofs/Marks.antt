-- What marking one function adds to what is marked so far.
use Rattle.std.proofs.Common.{◌≡◌, ◌≢◌, ℕ, zero, suc, ◌+◌, ◌<◌, ◌≤◌, List, [], ◌∷◌, length, take, Option, Some, None, Bool, true, false, refl, subst, ap, sym, arith, true≢false, get_or, set, get_or-set_other, get_or-set_same, cond, ◌⊎◌, inl, inr, ◌∙◌}
use Rattle.std.specs.Prelude.{is_none, is_some, unwrap_or, not}
use Rattle.std.specs.List.{Contains}
use Rattle.std.proofs.lemmas.List.{take_more, length-set, get_or_default}
use Rattle.std.proofs.lemmas.List.Elements.{Contains-append_left, Contains-append_right, Contains-append_cases}
use Rattle.std.proofs.lemmas.List.Sums.{sum_by-set}
use Rattle.pw_close.specs.Steps.Marks.{entry, unmarked, MarksRoots, MarksRow}

-- ---- lists

pub some_is : {a b : ℕ} → Some a ≡ Some b → a ≡ b
some_is {a} e = ap (λ o. unwrap_or o a) e

pub none_is_not : {a : ℕ} → None ≡ Some a → ⊥
none_is_not e = true≢false (sym (ap is_some e))

pub is_none_at : (x : Option ℕ) → is_none x ≡ true → x ≡ None
is_none_at None h = refl
is_none_at (Some a) h = absurd (true≢false (sym h))

pub is_some_at : (x : Option ℕ) → is_none x ≡ false → x ≡ None → ⊥
is_some_at None h e = true≢false h
is_some_at (Some a) h e = none_is_not (sym e)

pub in_none : (n : ℕ) → Contains [] n → ⊥
in_none n c = let h : c.0 < 0 = c.1 in omega arith

same_or_other_suc : (n r : ℕ) → (n ≡ r) ⊎ (n ≢ r) → (suc n ≡ suc r) ⊎ (suc n ≢ suc r)
same_or_other_suc n r (inl e) = inl (ap suc e)
same_or_other_suc n r (inr d) = inr (omega arith)

pub same_or_other : (n r : ℕ) → (n ≡ r) ⊎ (n ≢ r)
same_or_other zero zero = inl refl
same_or_other zero (suc r) = inr (omega arith)
same_or_other (suc n) zero = inr (omega arith)
same_or_other (suc n) (suc r) = same_or_other_suc n r (same_or_other n r)

one_is : (x n i : ℕ) → i < 1 → get_or (x ∷ []) i n ≡ n → n ≡ x
one_is x n zero h e = sym e
one_is x n (suc i) h e = absurd (omega arith)

in_one : (x n : ℕ) → Contains (x ∷ []) n → n ≡ x
in_one x n c = one_is x n c.0 c.1 c.2

-- the last of the elements so far, or one before it
more_cases : (xs : List ℕ) (i n : ℕ) → Contains (take i xs) n ⊎ Contains (get_or xs i 0 ∷ []) n → Contains (take i xs) n ⊎ (n ≡ get_or xs i 0)
more_cases xs i n (inl c) = inl c
more_cases xs i n (inr c) = inr (in_one (get_or xs i 0) n c)

pub contains_more : (xs : List ℕ) (i n : ℕ) → i < length xs → Contains (take (i + 1) xs) n → Contains (take i xs) n ⊎ (n ≡ get_or xs i 0)
contains_more xs i n h c =
    more_cases xs i n (Contains-append_cases _ _ _ (subst (λ ys. Contains ys n) (take_more xs i 0 h) c))

pub contains_before : (xs : List ℕ) (i n : ℕ) → i < length xs → Contains (take i xs) n → Contains (take (i + 1) xs) n
contains_before xs i n h c = subst (λ ys. Contains ys n) (sym (take_more xs i 0 h)) (Contains-append_left _ _ _ c)

has_one : (x : ℕ) → Contains (x ∷ []) x
has_one x = (0, omega arith, refl)

pub contains_last : (xs : List ℕ) (i : ℕ) → i < length xs → Contains (take (i + 1) xs) (get_or xs i 0)
contains_last xs i h =
    subst (λ ys. Contains ys (get_or xs i 0)) (sym (take_more xs i 0 h)) (Contains-append_right (take i xs) _ _ (has_one _))

-- ---- what is read at a number

-- what a read found, and the test of it
is_none_by : (x : Option ℕ) (b : Bool) → is_some x ≡ not b → is_none x ≡ b
is_none_by None true h = refl
is_none_by None false h = absurd (true≢false (sym h))
is_none_by (Some a) true h = absurd (true≢false h)
is_none_by (Some a) false h = refl

pub is_none_here : (xs : List (Option ℕ)) (r : ℕ) (x : Option ℕ) (b : Bool) → r < length xs → x ≡ get_or xs r x → is_some x ≡ not b →
    is_none (entry xs r) ≡ b
is_none_here xs r x b low is some = ap is_none (get_or_default xs r None x low) ∙ (ap is_none (sym is) ∙ is_none_by x b some)

-- ---- roots

module _ (xs : List ℕ) (count i : ℕ) (lv pa : List (Option ℕ)) (m : MarksRoots (take i xs) count lv pa) (h : i < length xs)
    (low : get_or xs i 0 < count) where
  abbrev now : List (Option ℕ)
  now = set lv (get_or xs i 0) (Some 0)

  within : get_or xs i 0 < length lv
  within = let e : length lv ≡ count = m.levels_all in omega arith

  here : (n : ℕ) → n ≡ get_or xs i 0 → entry now n ≡ Some 0
  here n e = subst (λ k. entry now k ≡ Some 0) (sym e) (get_or-set_same lv (get_or xs i 0) (Some 0) None within)

  there : (n : ℕ) → n ≢ get_or xs i 0 → entry now n ≡ entry lv n
  there n d = get_or-set_other lv (get_or xs i 0) n (Some 0) None d

  root_of : (n : ℕ) → (n ≡ get_or xs i 0) ⊎ (n ≢ get_or xs i 0) → Contains (take i xs) n ⊎ (n ≡ get_or xs i 0) → entry now n ≡ Some 0
  root_of n (inl e) w = here n e
  root_of n (inr d) (inl c) = there n d ∙ m.root n c
  root_of n (inr d) (inr e) = here n e

  only_of : (n j : ℕ) → (n ≡ get_or xs i 0) ⊎ (n ≢ get_or xs i 0) → entry now n ≡ Some j → (j ≡ 0) × Contains (take (i + 1) xs) n
  only_of n j (inl e) is =
      (some_is (sym is ∙ here n e), subst (λ k. Contains (take (i + 1) xs) k) (sym e) (contains_last xs i h))
  only_of n j (inr d) is =
      let o = m.only n j (sym (there n d) ∙ is) in (o.0, contains_before xs i n h o.1)

  pub roots_more : MarksRoots (take (i + 1) xs) count now pa
  roots_more = record {
    levels_all = length-set lv (get_or xs i 0) (Some 0) ∙ m.levels_all;
    parents_all = m.parents_all;
    root = λ n c. root_of n (same_or_other n (get_or xs i 0)) (contains_more xs i n h c);
    only = λ n j is. only_of n j (same_or_other n (get_or xs i 0)) is;
    parent = m.parent;
  }

-- ---- a row

module _ (row : List ℕ) (k p i : ℕ) (lv pa lv' pa' : List (Option ℕ)) (m : MarksRow (take i row) k p lv pa lv' pa')
    (h : i < length row) where
  -- ---- where the function had no level

  module _ (empty : is_none (entry lv' (get_or row i 0)) ≡ true) (low : get_or row i 0 < length lv) (same : length pa ≡ length lv) where
    abbrev levels : List (Option ℕ)
    levels = set lv' (get_or row i 0) (Some k)

    abbrev parents : List (Option ℕ)
    parents = set pa' (get_or row i 0) (Some p)

    empty_is : entry lv' (get_or row i 0) ≡ None
    empty_is = is_none_at _ empty

    row_within : get_or row i 0 < length lv'
    row_within = let e = m.levels_all in omega arith

    row_within_parents : get_or row i 0 < length pa'
    row_within_parents = let e = m.parents_all in omega arith

    marked : (n : ℕ) → n ≡ get_or row i 0 → (entry levels n ≡ Some k) × (entry parents n ≡ Some p)
    marked n e = subst (λ j. (entry levels j ≡ Some k) × (entry parents j ≡ Some p)) (sym e)
        (get_or-set_same lv' (get_or row i 0) (Some k) None row_within, get_or-set_same pa' (get_or row i 0) (Some p) None row_within_parents)

    unchanged : (n : ℕ) → n ≢ get_or row i 0 → (entry levels n ≡ entry lv' n) × (entry parents n ≡ entry pa' n)
    unchanged n d = (get_or-set_other lv' (get_or row i 0) n (Some k) None d, get_or-set_other pa' (get_or row i 0) n (Some p) None d)

    row_kept : (n j : ℕ) → (n ≡ get_or row i 0) ⊎ (n ≢ get_or row i 0) → entry lv n ≡ Some j →
        (entry levels n ≡ Some j) × (entry parents n ≡ entry pa n)
    row_kept n j (inl e) was = absurd (none_is_not (sym empty_is ∙ subst (λ q. entry lv' q ≡ Some j) e (m.kept n j was).0))
    row_kept n j (inr d) was = ((unchanged n d).0 ∙ (m.kept n j was).0, (unchanged n d).1 ∙ (m.kept n j was).1)

    row_fresh : (n j : ℕ) → (n ≡ get_or row i 0) ⊎ (n ≢ get_or row i 0) → entry lv n ≡ None → entry levels n ≡ Some j →
        (j ≡ k) × (entry parents n ≡ Some p) × Contains (take (i + 1) row) n
    row_fresh n j (inl e) was is =
        (some_is (sym is ∙ (marked n e).0), (marked n e).1, subst (λ q. Contains (take (i + 1) row) q) (sym e) (contains_last row i h))
    row_fresh n j (inr d) was is =
        let f = m.fresh n j was (sym (unchanged n d).0 ∙ is) in (f.0, (unchanged n d).1 ∙ f.1, contains_before row i n h f.2)

    not_in : (n : ℕ) → n ≢ get_or row i 0 → (Contains (take i row) n → ⊥) → Contains (take i row) n ⊎ (n ≡ get_or row i 0) → ⊥
    not_in n d out (inl c) = out c
    not_in n d out (inr e) = d e

    row_rest : (n : ℕ) → (n ≡ get_or row i 0) ⊎ (n ≢ get_or row i 0) → entry lv n ≡ None → entry levels n ≡ None →
        (entry parents n ≡ entry pa n) × (Contains (take (i + 1) row) n → ⊥)
    row_rest n (inl e) was is = absurd (none_is_not (sym is ∙ (marked n e).0))
    row_rest n (inr d) was is =
        let r = m.rest n was (sym (unchanged n d).0 ∙ is) in
        ((unchanged n d).1 ∙ r.0, λ c. not_in n d r.1 (contains_more row i n h c))

    pub row_more : MarksRow (take (i + 1) row) k p lv pa levels parents
    row_more = record {
      levels_all = length-set lv' (get_or row i 0) (Some k) ∙ m.levels_all;
      parents_all = length-set pa' (get_or row i 0) (Some p) ∙ m.parents_all;
      kept = λ n j was. row_kept n j (same_or_other n (get_or row i 0)) was;
      fresh = λ n j was is. row_fresh n j (same_or_other n (get_or row i 0)) was is;
      rest = λ n was is. row_rest n (same_or_other n (get_or row i 0)) was is;
    }

    pub one_fewer : unmarked levels + 1 ≡ unmarked lv'
    one_fewer =
        let s : unmarked levels + cond (is_none (entry lv' (get_or row i 0))) 1 0 ≡ unmarked lv' + 0 = sum_by-set (λ x. cond (is_none x) 1 0) lv' (get_or row i 0) (Some k) None row_within in
        let n : ◌≡◌ {A = ℕ} (cond (is_none (entry lv' (get_or row i 0))) 1 0) 1 = ap (λ b. cond b 1 0) empty in omega (arith, s, n)

  -- ---- where it had one

  module _ (full : is_none (entry lv' (get_or row i 0)) ≡ false) where
    out_of : (n : ℕ) → entry lv' n ≡ None → (Contains (take i row) n → ⊥) → Contains (take i row) n ⊎ (n ≡ get_or row i 0) → ⊥
    out_of n is out (inl c) = out c
    out_of n is out (inr e) = is_some_at _ full (subst (λ q. entry lv' q ≡ None) e is)

    pub row_same : MarksRow (take (i + 1) row) k p lv pa lv' pa'
    row_same = record {
      levels_all = m.levels_all;
      parents_all = m.parents_all;
      kept = m.kept;
      fresh = λ n j was is. let f = m.fresh n j was is in (f.0, f.1, contains_before row i n h f.2);
      rest = λ n was is. let r = m.rest n was is in (r.0, λ c. out_of n is r.1 (contains_more row i n h c));
    }

pub row_none : (k p : ℕ) (lv pa : List (Option ℕ)) → MarksRow [] k p lv pa lv pa
row_none k p lv pa = record {
  levels_all = refl;
  parents_all = refl;
  kept = λ n j was. (was, refl);
  fresh = λ n j was is. absurd (none_is_not (sym was ∙ is));
  rest = λ n was is. (refl, in_none n);
}

-- ---- counts

pub fewer_more : (now before start : ℕ) (found : Bool) → now + 1 ≡ before → before + cond found 1 0 ≤ start → now + 1 ≤ start
fewer_more now before start found one some = omega (arith, one, some)
