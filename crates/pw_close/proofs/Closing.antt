-- The levels and parents of all functions up to a level, round by round, and of all.
use Rattle.std.proofs.Common.{◌≡◌, ℕ, zero, suc, ◌+◌, ◌<◌, ◌≤◌, List, length, Option, Some, None, Bool, true, false, refl, subst, ap, sym, arith, cond, true≢false, ◌⊎◌, inl, inr, ◌∙◌}
use Rattle.std.specs.Prelude.{is_none}
use Rattle.std.specs.List.{All}
use Rattle.std.proofs.lemmas.List.Sums.{count_by-le-length, sum_by_more_le}
use Rattle.std.proofs.lemmas.Option.{slice_get_within, get_or_from_slice_get}
use Rattle.pw_close.specs.declared.graph.Graph.{Graph}
use Rattle.pw_close.specs.declared.graph.Levels.{Levels}
use Rattle.pw_close.specs.Graphs.{HasEdge, HasWay, IsKept, root, named, IsGraph}
use Rattle.pw_close.specs.Closure.{IsLevel, AreLevels}
use Rattle.pw_close.specs.Steps.Marks.{entry, unmarked, MarksRoots, MarksNext}
use Rattle.pw_close.proofs.Marks.{some_is, none_is_not}

-- ---- ways

pub way_kept : (g : Graph) (k n : ℕ) → HasWay g k n → IsKept g n
way_kept g zero n w = root w
way_kept g (suc k) n w = named (way_kept g k w.0 w.1) w.2

pub kept_way : (g : Graph) (n : ℕ) → IsKept g n → (k : ℕ) × HasWay g k n
kept_way g n (root r) = (0, r)
kept_way g n (named {m = m} k e) = let w = kept_way g m k in (suc w.0, (m, w.1, e))

-- ---- up to a level

-- what is known when the functions up to level k are marked
pub record ClosedTo (g : Graph) (k : ℕ) (lv pa : List (Option ℕ)) : Type 0 where
  pub levels_all : length lv ≡ g.funs
  pub parents_all : length pa ≡ g.funs
  pub way : (n j : ℕ) → entry lv n ≡ Some j → HasWay g j n × (j ≤ k)
  pub marked : (n j : ℕ) → HasWay g j n → j ≤ k → (i : ℕ) × (entry lv n ≡ Some i) × (i ≤ j)
  pub parent : (n j : ℕ) → entry lv n ≡ Some (suc j) → (p : ℕ) × (entry pa n ≡ Some p) × (entry lv p ≡ Some j) × HasEdge g p n
      × ((q : ℕ) → entry lv q ≡ Some j → HasEdge g q n → p ≤ q)
  pub root : (n : ℕ) → entry lv n ≡ Some 0 → entry pa n ≡ None
  pub none : (n : ℕ) → entry lv n ≡ None → entry pa n ≡ None

-- the roots are level 0
roots_marked : (g : Graph) (lv pa : List (Option ℕ)) → MarksRoots g.roots.items g.funs lv pa → (n j : ℕ) → HasWay g j n → j ≤ 0 →
    (i : ℕ) × (entry lv n ≡ Some i) × (i ≤ j)
roots_marked g lv pa m n zero w h = (0, m.root n w, omega arith)
roots_marked g lv pa m n (suc j) w h = absurd (omega arith)

pub roots_close : (g : Graph) (lv pa : List (Option ℕ)) → MarksRoots g.roots.items g.funs lv pa → ClosedTo g 0 lv pa
roots_close g lv pa m = record {
  levels_all = m.levels_all;
  parents_all = m.parents_all;
  way = λ n j is. let o = m.only n j is in (subst (λ i. HasWay g i n) (sym o.0) o.1, omega (arith, o.0));
  marked = roots_marked g lv pa m;
  parent = λ n j is. absurd (let o = m.only n (suc j) is in omega (arith, o.0));
  root = λ n is. m.parent n;
  none = λ n is. m.parent n;
}

-- ---- one level more

below_rows : (g : Graph) (m n : ℕ) → IsGraph g → HasEdge g m n → m < g.funs
below_rows g m n ok e = let low = slice_get_within g.edges.items m e.0 e.1 in let rows = ok.rows in omega (arith, low, rows)

lower_or_same : (i k : ℕ) → i ≤ k → (suc i ≤ k) ⊎ (i ≡ k)
lower_or_same i zero h = inr (omega arith)
lower_or_same zero (suc k) h = inl (omega arith)
lower_or_same (suc i) (suc k) h = step (lower_or_same i k (omega arith))
  where
    step : (suc i ≤ k) ⊎ (i ≡ k) → (suc (suc i) ≤ suc k) ⊎ (suc i ≡ suc k)
    step (inl a) = inl (omega arith)
    step (inr a) = inr (omega arith)

module _ (g : Graph) (ok : IsGraph g) (k : ℕ) (lv pa lv' pa' : List (Option ℕ)) (c : ClosedTo g k lv pa)
    (m : MarksNext g k g.funs lv pa lv' pa') where
  way_of : (n j : ℕ) (x : Option ℕ) → entry lv n ≡ x → entry lv' n ≡ Some j → HasWay g j n × (j ≤ suc k)
  way_of n j (Some i) was is =
      let e = some_is (sym is ∙ (m.kept n i was).0) in
      let w = c.way n i was in
      (subst (λ d. HasWay g d n) (sym e) w.0, (let b = w.1 in omega (arith, b, e)))
  way_of n j None was is =
      let f = m.fresh n j was is in
      (subst (λ d. HasWay g d n) (sym f.0) (f.1, (c.way f.1 k f.3.level).0, f.3.edge), omega (arith, f.0))

  -- a function to which one of level k leads
  led : (n q : ℕ) (x y : Option ℕ) → entry lv n ≡ x → entry lv' n ≡ y → entry lv q ≡ Some k → HasEdge g q n →
      (i : ℕ) × (entry lv' n ≡ Some i) × (i ≤ suc k)
  led n q (Some i) y was is level e = (i, (m.kept n i was).0, (let b = (c.way n i was).1 in omega (arith, b)))
  led n q None (Some i) was is level e = (i, is, (let f = m.fresh n i was is in omega (arith, f.0)))
  led n q None None was is level e = absurd ((m.rest n was is).1 q (below_rows g q n ok e) level e)

  -- a function to which one of level i, at most k, leads
  led_by : (n q i : ℕ) → (suc i ≤ k) ⊎ (i ≡ k) → entry lv q ≡ Some i → HasEdge g q n → (j : ℕ) × (entry lv' n ≡ Some j) × (j ≤ suc i)
  led_by n q i (inl low) level e =
      let o = c.marked n (suc i) (q, (c.way q i level).0, e) low in (o.0, (m.kept n o.0 o.1).0, o.2)
  led_by n q i (inr is) level e =
      let o = led n q (entry lv n) (entry lv' n) refl refl (subst (λ d. entry lv q ≡ Some d) is level) e in
      (o.0, o.1, (let b = o.2 in omega (arith, b, is)))

  marked_of : (n j : ℕ) → HasWay g j n → (j ≤ k) ⊎ (j ≡ suc k) → (i : ℕ) × (entry lv' n ≡ Some i) × (i ≤ j)
  marked_of n j w (inl low) = let o = c.marked n j w low in (o.0, (m.kept n o.0 o.1).0, o.2)
  marked_of n zero w (inr is) = absurd (omega (arith, is))
  marked_of n (suc j) w (inr is) =
      let o = c.marked w.0 j w.1 (omega (arith, is)) in
      let l = led_by n w.0 o.0 (lower_or_same o.0 k (c.way w.0 o.0 o.1).1) o.1 w.2 in
      (l.0, l.1, (let a = l.2 in let b = o.2 in omega (arith, a, b)))

  -- a level up to k is not new
  old_level : (q j : ℕ) (x : Option ℕ) → entry lv q ≡ x → entry lv' q ≡ Some j → j ≤ k → entry lv q ≡ Some j
  old_level q j (Some i) was is low = was ∙ (sym (m.kept q i was).0 ∙ is)
  old_level q j None was is low = absurd (let f = m.fresh q j was is in omega (arith, f.0, low))

  parent_of : (n j : ℕ) (x : Option ℕ) → entry lv n ≡ x → entry lv' n ≡ Some (suc j) →
      (p : ℕ) × (entry pa' n ≡ Some p) × (entry lv' p ≡ Some j) × HasEdge g p n × ((q : ℕ) → entry lv' q ≡ Some j → HasEdge g q n → p ≤ q)
  parent_of n j (Some i) was is =
      let e = sym (m.kept n i was).0 ∙ is in
      let o = c.parent n j (was ∙ e) in
      let low = (c.way n (suc j) (was ∙ e)).1 in
      (o.0, (m.kept n i was).1 ∙ o.1, (m.kept o.0 j o.2).0, o.3, λ q l d. o.4 q (old_level q j (entry lv q) refl l (omega (arith, low))) d)
  parent_of n j None was is =
      let f = m.fresh n (suc j) was is in
      let same : j ≡ k = (let e = f.0 in omega (arith, e)) in (
        f.1,
        f.2,
        subst (λ d. entry lv' f.1 ≡ Some d) (sym same) (m.kept f.1 k f.3.level).0,
        f.3.edge,
        λ q l d. f.3.first q (subst (λ i. entry lv q ≡ Some i) same (old_level q j (entry lv q) refl l (omega (arith, same)))) d,
      )

  root_of : (n : ℕ) (x : Option ℕ) → entry lv n ≡ x → entry lv' n ≡ Some 0 → entry pa' n ≡ None
  root_of n (Some i) was is = (m.kept n i was).1 ∙ c.root n (was ∙ (sym (m.kept n i was).0 ∙ is))
  root_of n None was is = absurd (let f = m.fresh n 0 was is in omega (arith, f.0))

  none_of : (n : ℕ) (x : Option ℕ) → entry lv n ≡ x → entry lv' n ≡ None → entry pa' n ≡ None
  none_of n (Some i) was is = absurd (none_is_not (sym is ∙ (m.kept n i was).0))
  none_of n None was is = (m.rest n was is).0 ∙ c.none n was

  up_to : (j : ℕ) → j ≤ suc k → (j ≤ k) ⊎ (j ≡ suc k)
  up_to j h = swap (lower_or_same j (suc k) h)
    where
      swap : (suc j ≤ suc k) ⊎ (j ≡ suc k) → (j ≤ k) ⊎ (j ≡ suc k)
      swap (inl a) = inl (omega arith)
      swap (inr a) = inr a

  pub level_closes : ClosedTo g (suc k) lv' pa'
  level_closes = record {
    levels_all = m.levels_all ∙ c.levels_all;
    parents_all = m.parents_all ∙ c.parents_all;
    way = λ n j is. way_of n j (entry lv n) refl is;
    marked = λ n j w low. marked_of n j w (up_to j low);
    parent = λ n j is. parent_of n j (entry lv n) refl is;
    root = λ n is. root_of n (entry lv n) refl is;
    none = λ n is. none_of n (entry lv n) refl is;
  }

-- ---- all levels

-- every way is as long as a level at least
abbrev pub AllMarked : Graph → List (Option ℕ) → Type 0
AllMarked g lv = (n j : ℕ) → HasWay g j n → (i : ℕ) × (entry lv n ≡ Some i) × (i ≤ j)

module _ (g : Graph) (k : ℕ) (levels : Levels) (c : ClosedTo g k levels.level.items levels.parent.items) (all : AllMarked g levels.level.items) where
  is_level : (n j : ℕ) → entry levels.level.items n ≡ Some j → IsLevel g n j
  is_level n j is = record {
    way = (c.way n j is).0;
    least = λ i w. let o = all n i w in (let e = some_is (sym is ∙ o.1) in let b = o.2 in omega (arith, e, b));
  }

  level_is : (n j : ℕ) → IsLevel g n j → entry levels.level.items n ≡ Some j
  level_is n j l =
      let o = all n j l.way in
      let b = l.least o.0 (c.way n o.0 o.1).0 in
      let e : o.0 ≡ j = (let a = o.2 in omega (arith, a, b)) in
      subst (λ i. entry levels.level.items n ≡ Some i) e o.1

  pub all_levels : AreLevels g levels
  all_levels = record {
    levels_all = c.levels_all;
    parents_all = c.parents_all;
    level = is_level;
    rest = λ n is kept. let w = kept_way g n kept in none_is_not (sym is ∙ (all n w.0 w.1).1);
    parent = λ n j is. let o = c.parent n j is in
        (o.0, o.1, record { level = is_level o.0 j o.2; edge = o.3; first = λ q l e. o.4 q (level_is q j l) e });
    root = c.root;
    none = c.none;
  }

-- where a round marked nothing
module _ (g : Graph) (ok : IsGraph g) (k : ℕ) (lv pa : List (Option ℕ)) (c : ClosedTo g k lv pa) (m : MarksNext g k g.funs lv pa lv pa) where
  still : (n q : ℕ) (x : Option ℕ) → entry lv n ≡ x → entry lv q ≡ Some k → HasEdge g q n → (i : ℕ) × (entry lv n ≡ Some i) × (i ≤ k)
  still n q (Some i) was level e = (i, was, (c.way n i was).1)
  still n q None was level e = absurd ((m.rest n was was).1 q (below_rows g q n ok e) level e)

  still_by : (n q i : ℕ) → (suc i ≤ k) ⊎ (i ≡ k) → entry lv q ≡ Some i → HasEdge g q n → (j : ℕ) × (entry lv n ≡ Some j) × (j ≤ suc i)
  still_by n q i (inl low) level e = c.marked n (suc i) (q, (c.way q i level).0, e) low
  still_by n q i (inr is) level e =
      let o = still n q (entry lv n) refl (subst (λ d. entry lv q ≡ Some d) is level) e in
      (o.0, o.1, (let b = o.2 in omega (arith, b, is)))

  pub quiet_marked : AllMarked g lv
  quiet_marked n zero w = c.marked n 0 w (omega arith)
  quiet_marked n (suc j) w =
      let o = quiet_marked w.0 j w.1 in
      let l = still_by n w.0 o.0 (lower_or_same o.0 k (c.way w.0 o.0 o.1).1) o.1 w.2 in
      (l.0, l.1, (let a = l.2 in let b = o.2 in omega (arith, a, b)))

-- where every function has a level
none_is_one : (x : Option ℕ) → cond (is_none x) 1 0 ≤ 0 → is_none x ≡ false
none_is_one None h = absurd (omega (arith, h))
none_is_one (Some i) h = refl

full_level : (lv : List (Option ℕ)) (n : ℕ) → unmarked lv ≡ 0 → n < length lv → is_none (entry lv n) ≡ false
full_level lv n none low =
    let b = sum_by_more_le (λ x. cond (is_none x) 1 0) lv n None low in
    none_is_one (entry lv n) (omega (arith, b, none))

edge_below : (g : Graph) → IsGraph g → (m n : ℕ) → HasEdge g m n → n < g.funs
edge_below g ok m n e =
    let low = slice_get_within g.edges.items m e.0 e.1 in
    let all = subst (λ row. All (λ i. i < g.funs) row.items) (get_or_from_slice_get g.edges.items m e.0 e.0 e.1) (ok.edges m e.0 low) in
    subst (λ i. i < g.funs) e.2.2 (all e.2.0 n e.2.1)

way_below : (g : Graph) → IsGraph g → (j n : ℕ) → HasWay g j n → n < g.funs
way_below g ok zero n w = subst (λ r. r < g.funs) w.2 (ok.roots w.0 n w.1)
way_below g ok (suc j) n w = edge_below g ok w.0 n w.2

module _ (g : Graph) (ok : IsGraph g) (lv pa : List (Option ℕ)) (c : ClosedTo g g.funs lv pa) (none : unmarked lv ≡ 0) where
  by_level : (n j : ℕ) (x : Option ℕ) → entry lv n ≡ x → HasWay g j n → (j ≤ g.funs) ⊎ (suc g.funs ≤ j) →
      (i : ℕ) × (entry lv n ≡ Some i) × (i ≤ j)
  by_level n j x is w (inl low) = c.marked n j w low
  by_level n j (Some i) is w (inr high) = (i, is, (let b = (c.way n i is).1 in omega (arith, b, high)))
  by_level n j None is w (inr high) =
      absurd (true≢false (sym (ap is_none is) ∙ full_level lv n none (let b = way_below g ok j n w in let e = c.levels_all in omega (arith, b, e))))

  within_or_beyond : (j f : ℕ) → (j ≤ f) ⊎ (suc f ≤ j)
  within_or_beyond zero f = inl (omega arith)
  within_or_beyond (suc j) zero = inr (omega arith)
  within_or_beyond (suc j) (suc f) = step (within_or_beyond j f)
    where
      step : (j ≤ f) ⊎ (suc f ≤ j) → (suc j ≤ suc f) ⊎ (suc (suc f) ≤ suc j)
      step (inl a) = inl (omega arith)
      step (inr a) = inr (omega arith)

  pub full_marked : AllMarked g lv
  full_marked n j w = by_level n j (entry lv n) refl w (within_or_beyond j g.funs)

-- ---- the loop

pub roots_as : (xs ys : List ℕ) (count n : ℕ) (lv pa : List (Option ℕ)) → xs ≡ ys → count ≡ n → MarksRoots xs count lv pa → MarksRoots ys n lv pa
roots_as xs ys count n lv pa e f m = subst (λ r. MarksRoots r n lv pa) e (subst (λ i. MarksRoots xs i lv pa) f m)

pub few_unmarked : (count : ℕ) (lv : List (Option ℕ)) → length lv ≡ count → 0 + unmarked lv ≤ count
few_unmarked count lv e = let b = count_by-le-length is_none lv in omega (arith, b, e)

pub quiet : (g : Graph) → IsGraph g → (k : ℕ) (old new : Levels) → ClosedTo g k old.level.items old.parent.items →
    MarksNext g k g.funs old.level.items old.parent.items new.level.items new.parent.items → new ≡ old → AreLevels g new
quiet g ok k old new c m same =
    subst (AreLevels g) (sym same)
    (all_levels g k old c
    (quiet_marked g ok k _ _ c (subst (λ l. MarksNext g k g.funs old.level.items old.parent.items l.level.items l.parent.items) same m)))

pub goes_on : (g : Graph) → IsGraph g → (k : ℕ) (old new : Levels) (found : Bool) →
    ClosedTo g k old.level.items old.parent.items × (k + unmarked old.level.items ≤ g.funs) →
    MarksNext g k g.funs old.level.items old.parent.items new.level.items new.parent.items → found ≡ true →
    unmarked new.level.items + cond found 1 0 ≤ unmarked old.level.items →
    ClosedTo g (k + 1) new.level.items new.parent.items × ((k + 1) + unmarked new.level.items ≤ g.funs)
goes_on g ok k old new false c m is fewer = absurd (true≢false (sym is))
goes_on g ok k old new true c m is fewer =
    let e : suc k ≡ k + 1 = omega arith in
    (subst (λ i. ClosedTo g i new.level.items new.parent.items) e (level_closes g ok k _ _ _ _ c.0 m), (let b = c.1 in omega (arith, b, fewer)))

pub full : (g : Graph) → IsGraph g → (k : ℕ) (levels : Levels) →
    ClosedTo g k levels.level.items levels.parent.items × (k + unmarked levels.level.items ≤ g.funs) → g.funs ≤ k → AreLevels g levels
full g ok k levels c end =
    let e : k ≡ g.funs = (let b = c.1 in omega (arith, b, end)) in
    let none : unmarked levels.level.items ≡ 0 = (let b = c.1 in omega (arith, b, end)) in
    let all = subst (λ i. ClosedTo g i levels.level.items levels.parent.items) e c.0 in
    all_levels g g.funs levels all (full_marked g ok _ _ all none)
