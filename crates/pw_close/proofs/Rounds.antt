-- What the row of one more function of a level adds to what is marked so far.
use Rattle.std.proofs.Common.{◌≡◌, ◌≢◌, ℕ, suc, ◌+◌, ◌<◌, ◌≤◌, List, length, Option, Some, None, Bool, true, false, refl, subst, ap, sym, arith, get_or, cond, true≢false, ◌⊎◌, inl, inr, ◌∙◌, Vec}
use Rattle.std.specs.Global.{Global}
use Rattle.std.specs.Prelude.{slice_get, zero, unwrap_or}
use Rattle.std.specs.List.{Contains}
use Rattle.std.proofs.lemmas.Option.{slice_get-get_or}
use Rattle.pw_close.specs.declared.graph.Graph.{Graph}
use Rattle.pw_close.specs.declared.graph.Levels.{Levels}
use Rattle.pw_close.specs.Graphs.{HasEdge}
use Rattle.pw_close.specs.Steps.Marks.{entry, MarksRow, MarksNext, IsFirstBefore}
use Rattle.pw_close.proofs.Marks.{same_or_other, some_is, none_is_not}

before_or_from_suc : (m q : ℕ) → (q < m) ⊎ (m ≤ q) → (suc q < suc m) ⊎ (suc m ≤ suc q)
before_or_from_suc m q (inl h) = inl (omega arith)
before_or_from_suc m q (inr h) = inr (omega arith)

before_or_from : (m q : ℕ) → (q < m) ⊎ (m ≤ q)
before_or_from zero q = inr (omega arith)
before_or_from (suc m) zero = inl (omega arith)
before_or_from (suc m) (suc q) = before_or_from_suc m q (before_or_from m q)

before_or_at_by : (m q : ℕ) → q < m + 1 → (q ≡ m) ⊎ (q ≢ m) → (q < m) ⊎ (q ≡ m)
before_or_at_by m q h (inl e) = inr e
before_or_at_by m q h (inr d) = inl (omega arith)

before_or_at : (m q : ℕ) → q < m + 1 → (q < m) ⊎ (q ≡ m)
before_or_at m q h = before_or_at_by m q h (same_or_other q m)

not_before : (m q : ℕ) → (q < m) ⊎ (m ≤ q) → (q < m → ⊥) → m ≤ q
not_before m q (inl h) out = absurd (out h)
not_before m q (inr h) out = h

vec_is : (a b : Vec ℕ Global) → Some a ≡ Some b → a ≡ b
vec_is a b e = ap (λ o. unwrap_or o a) e

module _ (g : Graph) (k m : ℕ) (row : Vec ℕ Global) (lv pa lv1 pa1 : List (Option ℕ)) (so_far : MarksNext g k m lv pa lv1 pa1)
    (here : slice_get g.edges.items m ≡ Some row) where
  -- a function of level k had that level before
  had_level : (x : Option ℕ) → entry lv m ≡ x → entry lv1 m ≡ Some k → entry lv m ≡ Some k
  had_level None was is = absurd (let f = so_far.fresh m k was is in omega (arith, f.0))
  had_level (Some j) was is = was ∙ (sym (so_far.kept m j was).0 ∙ is)

  edge_is : (n : ℕ) → HasEdge g m n → Contains row.items n
  edge_is n e = subst (λ r. Contains r.items n) (vec_is e.0 row (sym e.1 ∙ here)) e.2

  -- ---- where it has the level

  module _ (lv2 pa2 : List (Option ℕ)) (level : entry lv1 m ≡ Some k) (marks : MarksRow row.items (suc k) m lv1 pa1 lv2 pa2) where
    fresh_of : (n j : ℕ) (x : Option ℕ) → entry lv1 n ≡ x → entry lv n ≡ None → entry lv2 n ≡ Some j →
        (j ≡ suc k) × (p : ℕ) × (entry pa2 n ≡ Some p) × IsFirstBefore g k (m + 1) lv n p
    fresh_of n j (Some i) one was is =
        let f = so_far.fresh n i was one in
        let t = marks.kept n i one in (
          some_is (sym is ∙ t.0) ∙ f.0,
          f.1,
          t.1 ∙ f.2,
          record { below = (let b = f.3.below in omega arith); level = f.3.level; edge = f.3.edge; first = f.3.first },
        )
    fresh_of n j None one was is =
        let f = marks.fresh n j one is in
        let r = so_far.rest n was one in (
          f.0,
          m,
          f.1,
          record {
            below = omega arith;
            level = had_level (entry lv m) refl level;
            edge = (row, here, f.2);
            first = λ q l e. not_before m q (before_or_from m q) (λ low. r.1 q low l e);
          },
        )

    not_at : (n q : ℕ) → (Contains row.items n → ⊥) → (q < m → ⊥) → (q < m) ⊎ (q ≡ m) → HasEdge g q n → ⊥
    not_at n q out none (inl b) e = none b
    not_at n q out none (inr is) e = out (edge_is n (subst (λ x. HasEdge g x n) is e))

    rest_of : (n : ℕ) (x : Option ℕ) → entry lv1 n ≡ x → entry lv n ≡ None → entry lv2 n ≡ None →
        (entry pa2 n ≡ entry pa n) × ((q : ℕ) → q < m + 1 → entry lv q ≡ Some k → HasEdge g q n → ⊥)
    rest_of n (Some i) one was is = absurd (none_is_not (sym is ∙ (marks.kept n i one).0))
    rest_of n None one was is =
        let r = so_far.rest n was one in
        let t = marks.rest n one is in
        (t.0 ∙ r.0, λ q low l e. not_at n q t.1 (λ b. r.1 q b l e) (before_or_at m q low) e)

    pub round_more : MarksNext g k (m + 1) lv pa lv2 pa2
    round_more = record {
      levels_all = marks.levels_all ∙ so_far.levels_all;
      parents_all = marks.parents_all ∙ so_far.parents_all;
      kept = λ n j was. let a = so_far.kept n j was in let b = marks.kept n j a.0 in (b.0, b.1 ∙ a.1);
      fresh = λ n j was is. fresh_of n j (entry lv1 n) refl was is;
      rest = λ n was is. rest_of n (entry lv1 n) refl was is;
    }

  -- ---- where it has not

  module _ (other : entry lv1 m ≡ Some k → ⊥) where
    other_level : (n q : ℕ) → (q < m → ⊥) → (q < m) ⊎ (q ≡ m) → entry lv q ≡ Some k → ⊥
    other_level n q none (inl b) l = none b
    other_level n q none (inr is) l = other (so_far.kept m k (subst (λ x. entry lv x ≡ Some k) is l)).0

    pub round_same : MarksNext g k (m + 1) lv pa lv1 pa1
    round_same = record {
      levels_all = so_far.levels_all;
      parents_all = so_far.parents_all;
      kept = so_far.kept;
      fresh = λ n j was is. let f = so_far.fresh n j was is in
          (f.0, f.1, f.2, record { below = (let b = f.3.below in omega arith); level = f.3.level; edge = f.3.edge; first = f.3.first });
      rest = λ n was is. let r = so_far.rest n was is in (r.0, λ q low l e. other_level n q (λ b. r.1 q b l e) (before_or_at m q low) l);
    }

pub round_none : (g : Graph) (k : ℕ) (lv pa : List (Option ℕ)) → MarksNext g k 0 lv pa lv pa
round_none g k lv pa = record {
  levels_all = refl;
  parents_all = refl;
  kept = λ n j was. (was, refl);
  fresh = λ n j was is. absurd (none_is_not (sym was ∙ is));
  rest = λ n was is. (refl, λ q low l e. omega (arith, low));
}

-- ---- a function of the level or of another

has_or_not_by : (j k : ℕ) → (j ≡ k) ⊎ (j ≢ k) → (Some j ≡ Some k) ⊎ (Some j ≡ Some k → ⊥)
has_or_not_by j k (inl e) = inl (ap Some e)
has_or_not_by j k (inr d) = inr (λ e. d (some_is e))

has_or_not : (x : Option ℕ) (k : ℕ) → (x ≡ Some k) ⊎ (x ≡ Some k → ⊥)
has_or_not None k = inr (λ e. none_is_not e)
has_or_not (Some j) k = has_or_not_by j k (same_or_other j k)

round_by : (g : Graph) (k m : ℕ) (row : Vec ℕ Global) (lv pa : List (Option ℕ)) (one two : Levels) →
    (entry one.level.items m ≡ Some k) ⊎ (entry one.level.items m ≡ Some k → ⊥) →
    MarksNext g k m lv pa one.level.items one.parent.items → slice_get g.edges.items m ≡ Some row →
    (entry one.level.items m ≡ Some k → MarksRow row.items (suc k) m one.level.items one.parent.items two.level.items two.parent.items) →
    ((entry one.level.items m ≡ Some k → ⊥) → two ≡ one) →
    MarksNext g k (m + 1) lv pa two.level.items two.parent.items
round_by g k m row lv pa one two (inl e) so_far here marks same = round_more g k m row lv pa _ _ so_far here _ _ e (marks e)
round_by g k m row lv pa one two (inr other) so_far here marks same =
    subst (λ t. MarksNext g k (m + 1) lv pa t.level.items t.parent.items) (sym (same other)) (round_same g k m row lv pa _ _ so_far here other)

pub round : (g : Graph) (k m : ℕ) (row : Vec ℕ Global) (lv pa : List (Option ℕ)) (one two : Levels) →
    MarksNext g k m lv pa one.level.items one.parent.items → slice_get g.edges.items m ≡ Some row →
    (entry one.level.items m ≡ Some k → MarksRow row.items (suc k) m one.level.items one.parent.items two.level.items two.parent.items) →
    ((entry one.level.items m ≡ Some k → ⊥) → two ≡ one) →
    MarksNext g k (m + 1) lv pa two.level.items two.parent.items
round g k m row lv pa one two so_far here marks same =
    round_by g k m row lv pa one two (has_or_not (entry one.level.items m) k) so_far here marks same

pub marks_items : (xs row : List ℕ) (k p : ℕ) (lv pa lv' pa' : List (Option ℕ)) → xs ≡ row → MarksRow xs k p lv pa lv' pa' →
    MarksRow row k p lv pa lv' pa'
marks_items xs row k p lv pa lv' pa' e m = subst (λ r. MarksRow r k p lv pa lv' pa') e m

-- the row that the loop is at
pub item_at : (xs ys : List (Vec ℕ Global)) (i : ℕ) (x : Vec ℕ Global) → ys ≡ xs → i < length ys → x ≡ get_or ys i x → slice_get xs i ≡ Some x
item_at xs ys i x same low is = subst (λ zs. slice_get zs i ≡ Some x) same (slice_get-get_or ys i x low ∙ ap Some (sym is))

-- ---- counts

pub found_fewer : (two one start : ℕ) (found new : Bool) → new ≡ true → two + cond new 1 0 ≤ one → one + cond found 1 0 ≤ start → two + 1 ≤ start
found_fewer two one start found true e a b = omega (arith, a, b)
found_fewer two one start found false e a b = absurd (true≢false (sym e))

pub kept_fewer : (two one start : ℕ) (found new : Bool) → two + cond new 1 0 ≤ one → one + cond found 1 0 ≤ start → two + cond found 1 0 ≤ start
kept_fewer two one start found new a b = omega (arith, a, b)
