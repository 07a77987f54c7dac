-- The laws of levels, and the way upwards by parents.
use Rattle.std.proofs.Common.{◌≡◌, ℕ, zero, suc, ◌+◌, ◌-◌, ◌<◌, ◌≤◌, get_or, List, [], ◌∷◌, ◌++◌, length, length-append, Option, Some, None, refl, subst, sym, ap, arith, ◌∙◌}
use Rattle.std.specs.Prelude.{reverse}
use mathlib.Core.List.{reverse_aux}
use Rattle.std.proofs.lemmas.List.{get_or_default, length-reverse}
use Rattle.pw_close.specs.declared.graph.Graph.{Graph}
use Rattle.pw_close.specs.declared.graph.Levels.{Levels}
use Rattle.pw_close.specs.Closure.{IsLevel, level_of, parent_of, AreLevels}
use Rattle.pw_close.specs.Paths.{GoesUp, IsPath, HaveParents, LeadsTo}
use Rattle.pw_close.specs.Laws.{KeptByWays, KeptHaveLevels, LevelsAreKept, ParentsAreLower}
use Rattle.pw_close.specs.Graphs.{IsKept}
use Rattle.pw_close.proofs.Closing.{way_kept, kept_way}
use Rattle.pw_close.proofs.Marks.{some_is, none_is_not}

-- ---- laws

pub kept_by_ways : KeptByWays
kept_by_ways g n = (λ k w. way_kept g k n w, kept_way g n)

kept_has : (g : Graph) (levels : Levels) → AreLevels g levels → (n : ℕ) (x : Option ℕ) → level_of levels n ≡ x → IsKept g n →
    (k : ℕ) × (level_of levels n ≡ Some k)
kept_has g levels a n (Some k) is kept = (k, is)
kept_has g levels a n None is kept = absurd (a.rest n is kept)

pub kept_have_levels : KeptHaveLevels
kept_have_levels g levels a n kept = kept_has g levels a n (level_of levels n) refl kept

pub levels_are_kept : LevelsAreKept
levels_are_kept g levels a n k is = way_kept g k n (a.level n k is).way

level_as : (g : Graph) (levels : Levels) → AreLevels g levels → (n k : ℕ) (x : Option ℕ) → level_of levels n ≡ x → IsLevel g n k →
    level_of levels n ≡ Some k
level_as g levels a n k None is l = absurd (a.rest n is (way_kept g k n l.way))
level_as g levels a n k (Some i) is l =
    let o = a.level n i is in
    let up = o.least k l.way in
    let down = l.least i o.way in
    let e : i ≡ k = omega (arith, up, down) in subst (λ j. level_of levels n ≡ Some j) e is

pub parents_are_lower : ParentsAreLower
parents_are_lower g levels a = record {
  parents_all = a.parents_all ∙ sym a.levels_all;
  parent = λ n k is. let p = a.parent n k is in (p.0, p.1, level_as g levels a p.0 k (level_of levels p.0) refl p.2.level);
}

-- ---- upwards

-- from a function upwards by parents, as far as another
unfoldable pub Climbs : Levels → ℕ → ℕ → List ℕ → Type 0
Climbs levels n at [] = ⊥
Climbs levels n at (m ∷ []) = (m ≡ n) × (at ≡ n)
Climbs levels n at (m ∷ (p ∷ ps)) = (m ≡ n) × (parent_of levels n ≡ Some p) × Climbs levels p at (p ∷ ps)

pub climbs_more : (levels : Levels) (n at q : ℕ) (ms : List ℕ) → Climbs levels n at ms → parent_of levels at ≡ Some q →
    Climbs levels n q (ms ++ q ∷ [])
unfolding Climbs
climbs_more levels n at q [] c e = absurd c
climbs_more levels n at q (m ∷ []) c e = (c.0, subst (λ i. parent_of levels i ≡ Some q) c.1 e, (refl, refl))
climbs_more levels n at q (m ∷ (p ∷ ps)) c e = (c.0, c.1, climbs_more levels p at q (p ∷ ps) c.2 e)

pub climbed_is_up : (levels : Levels) (n at : ℕ) (ms : List ℕ) → Climbs levels n at ms → level_of levels at ≡ Some 0 → GoesUp levels n ms
unfolding Climbs GoesUp
climbed_is_up levels n at [] c e = c
climbed_is_up levels n at (m ∷ []) c e = (c.0, subst (λ i. level_of levels i ≡ Some 0) c.1 e)
climbed_is_up levels n at (m ∷ (p ∷ ps)) c e = (c.0, c.1, climbed_is_up levels p at (p ∷ ps) c.2 e)

reverse_twice : (xs ys : List ℕ) → reverse (reverse_aux xs ys) ≡ reverse_aux ys xs
reverse_twice [] ys = refl
reverse_twice (x ∷ xs) ys = reverse_twice xs (x ∷ ys)

pub path_found : (levels : Levels) (n at : ℕ) (ms : List ℕ) → Climbs levels n at ms → level_of levels at ≡ Some 0 → IsPath levels n (reverse ms)
path_found levels n at ms c e = subst (GoesUp levels n) (sym (reverse_twice ms [])) (climbed_is_up levels n at ms c e)

pub climbs_none : (levels : Levels) (n : ℕ) → Climbs levels n n (n ∷ [])
unfolding Climbs
climbs_none levels n = (refl, refl)

-- ---- a function's own level and parent

in_range : (xs : List (Option ℕ)) (n k : ℕ) → get_or xs n None ≡ Some k → n < length xs
in_range [] n k e = absurd (none_is_not e)
in_range (x ∷ xs) zero k e = omega arith
in_range (x ∷ xs) (suc n) k e = let low = in_range xs n k e in omega (arith, low)

pub parent_in_range : (levels : Levels) (n k : ℕ) → HaveParents levels → level_of levels n ≡ Some k → n < length levels.parent.items
parent_in_range levels n k h e =
    let low = in_range levels.level.items n k e in let all = h.parents_all in omega (arith, low, all)

-- while edges are left to climb, there is a parent
pub next_up : (levels : Levels) (n level i : ℕ) → HaveParents levels → level_of levels n ≡ Some (level - i) → i < level →
    (p : ℕ) × (parent_of levels n ≡ Some p) × (level_of levels p ≡ Some (level - (i + 1)))
next_up levels n level i h e low =
    let k : level - i ≡ suc (level - (i + 1)) = omega arith in
    h.parent n (level - (i + 1)) (subst (λ j. level_of levels n ≡ Some j) k e)

-- what is read where a parent stands
pub parent_read : (levels : Levels) (n p : ℕ) (x : Option ℕ) → n < length levels.parent.items → x ≡ get_or levels.parent.items n x →
    parent_of levels n ≡ Some p → x ≡ Some p
parent_read levels n p x low is e = is ∙ (get_or_default levels.parent.items n x None low ∙ e)

-- ---- the loop

-- the path climbs i edges, as far as a function whose level is what is left
abbrev pub Climbing : Levels → ℕ → ℕ → ℕ → ℕ → List ℕ → Type 0
Climbing levels n level i at path = Climbs levels n at path × (level_of levels at ≡ Some (level - i)) × (length path ≡ suc i)

pub first_climb : (levels : Levels) (n level : ℕ) (ys xs : List ℕ) → ys ≡ [] → xs ≡ ys ++ n ∷ [] → level_of levels n ≡ Some level →
    Climbing levels n level 0 n xs
first_climb levels n level ys xs none is e =
    let all : level ≡ level - 0 = omega arith in
    let one : xs ≡ n ∷ [] = is ∙ ap (λ zs. zs ++ n ∷ []) none in
    (subst (Climbs levels n n) (sym one) (climbs_none levels n), subst (λ k. level_of levels n ≡ Some k) all e, ap length one)

pub more_climb : (levels : Levels) (n level i at q : ℕ) (x : Option ℕ) (path new : List ℕ) → HaveParents levels →
    Climbing levels n level i at path → i < level → x ≡ get_or levels.parent.items at x → x ≡ Some q → new ≡ path ++ q ∷ [] →
    Climbing levels n level (i + 1) q new
more_climb levels n level i at q x path new h c low is some e =
    let range = parent_in_range levels at (level - i) h c.1 in
    let up = next_up levels at level i h c.1 low in
    let same : up.0 ≡ q = some_is (sym (parent_read levels at up.0 x range is up.1) ∙ some) in
    let longer : length new ≡ length path + 1 = ap length e ∙ length-append path (q ∷ []) in (
      subst (Climbs levels n q) (sym e) (climbs_more levels n at q path c.0 (subst (λ p. parent_of levels at ≡ Some p) same up.1)),
      subst (λ p. level_of levels p ≡ Some (level - (i + 1))) same up.2,
      (let l = c.2 in omega (arith, l, longer)),
    )

pub last_climb : (levels : Levels) (n level i at : ℕ) (path new : List ℕ) → level_of levels n ≡ Some level →
    Climbing levels n level i at path → level ≤ i → i ≤ level → new ≡ reverse path → LeadsTo levels n new
last_climb levels n level i at path new is c end within e =
    let none : level - i ≡ 0 = omega arith in
    let same : length new ≡ length path = ap length e ∙ length-reverse path in
    record {
      level = level;
      level_is = is;
      length_is = (let l = c.2 in omega (arith, l, same, end, within));
      is = subst (IsPath levels n) (sym e) (path_found levels n at path c.0 (subst (λ k. level_of levels at ≡ Some k) none c.1));
    }
