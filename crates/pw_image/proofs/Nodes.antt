-- A graph that shows a project has its kept functions, levels and parents.
use Rattle.std.proofs.Common.{◌≡◌, ℕ, zero, suc, ◌<◌, ◌≤◌, refl, sym, ap, subst, arith}
use Rattle.pw_tree.specs.Names.{Project}
use Rattle.pw_tree.specs.Depends.{Node, entry, defined}
use Rattle.pw_close.specs.declared.graph.Graph.{Graph}
use Rattle.pw_close.specs.Graphs as graphs
use Rattle.pw_close.specs.Closure as closure
use Rattle.pw_agree.specs.Kept as kept
use Rattle.pw_agree.specs.Kept.{IsBefore, by_module, by_unit, by_number, NodeIsBefore}
use Rattle.pw_image.specs.OneUnit.{own_definition}
use Rattle.pw_image.specs.Nodes.{node_of, ShowsProject, KeptAlike, LevelsAlike, ParentsAlike}

-- ---- numbers and nodes

abbrev number_of : Node → ℕ
number_of entry = 0
number_of (defined d) = d.number

same_number : (a b : ℕ) → defined (own_definition a) ≡ defined (own_definition b) → a ≡ b
same_number a b h = ap number_of h

pub one_number : (a b : ℕ) → node_of a ≡ node_of b → a ≡ b
one_number zero zero h = refl
one_number zero (suc b) h = cc
one_number (suc a) zero h = cc
one_number (suc a) (suc b) h = ap suc (same_number a b h)

below_from : (q p : ℕ) → IsBefore (own_definition q) (own_definition p) → q < p
below_from q p (by_module h) = absurd (omega arith)
below_from q p (by_unit e h) = absurd (omega arith)
below_from q p (by_number e f h) = h

below : (q p : ℕ) → NodeIsBefore (node_of q) (node_of p) → q < p
below zero zero h = absurd h
below zero (suc p) h = omega arith
below (suc q) zero h = absurd h
below (suc q) (suc p) h = let less = below_from q p h in omega arith

before : (q p : ℕ) → q < p → NodeIsBefore (node_of q) (node_of p)
before zero zero h = absurd (omega arith)
before zero (suc p) h = tt
before (suc q) zero h = absurd (omega arith)
before (suc q) (suc p) h = by_number refl refl (omega arith)

module _ (g : Graph) (project : Project) (shows : ShowsProject g project) where
  -- ---- ways

  way_there : (k n : ℕ) → graphs.HasWay g k n → kept.HasWay project k (node_of n)
  way_there zero n h = shows.roots n h
  way_there (suc k) n h = (node_of h.0, way_there k h.0 h.1, shows.edges h.0 n h.2)

  way_here : (k : ℕ) (t : Node) → kept.HasWay project k t → (n : ℕ) × (node_of n ≡ t) × graphs.HasWay g k n
  way_here zero t h = shows.all_roots t h
  way_here (suc k) t h =
      let m = way_here k h.0 h.1 in
      let n = shows.all_edges m.0 t (subst (λ s. kept.Leads project s t) (sym m.1) h.2) in
      (n.0, n.1, (m.0, m.2, n.2))

  way_back : (k n : ℕ) → kept.HasWay project k (node_of n) → graphs.HasWay g k n
  way_back k n h = let m = way_here k (node_of n) h in subst (graphs.HasWay g k) (one_number m.0 n m.1) m.2

  -- ---- kept functions

  kept_there : (n : ℕ) → graphs.IsKept g n → kept.IsKept project (node_of n)
  kept_there n (graphs.root h) = kept.root (shows.roots n h)
  kept_there n (graphs.named {m = m} h e) = kept.named (kept_there m h) (shows.edges m n e)

  kept_here : (t : Node) → kept.IsKept project t → (n : ℕ) × (node_of n ≡ t) × graphs.IsKept g n
  kept_here t (kept.root h) = let n = shows.all_roots t h in (n.0, n.1, graphs.root n.2)
  kept_here t (kept.named {m = s} h e) =
      let m = kept_here s h in
      let n = shows.all_edges m.0 t (subst (λ r. kept.Leads project r t) (sym m.1) e) in
      (n.0, n.1, graphs.named m.2 n.2)

  kept_back : (n : ℕ) → kept.IsKept project (node_of n) → graphs.IsKept g n
  kept_back n h = let m = kept_here (node_of n) h in subst (graphs.IsKept g) (one_number m.0 n m.1) m.2

  -- ---- levels

  level_there : (n k : ℕ) → closure.IsLevel g n k → kept.IsLevel project (node_of n) k
  level_there n k h = record { way = way_there k n h.way; least = λ j way. h.least j (way_back j n way) }

  level_back : (n k : ℕ) → kept.IsLevel project (node_of n) k → closure.IsLevel g n k
  level_back n k h = record { way = way_back k n h.way; least = λ j way. h.least j (way_there j n way) }

  edge_back : (m n : ℕ) → kept.Leads project (node_of m) (node_of n) → graphs.HasEdge g m n
  edge_back m n h = let t = shows.all_edges m (node_of n) h in subst (graphs.HasEdge g m) (one_number t.0 n t.1) t.2

  -- ---- parents

  not_before : (p q : ℕ) → (NodeIsBefore (node_of q) (node_of p) → ⊥) → p ≤ q
  not_before p q h = let none : q < p → ⊥ = λ less. h (before q p less) in grind (arith, none)

  parent_there : (n k p : ℕ) → closure.IsLevel g n (suc k) → closure.IsParent g n k p → kept.IsParent project (node_of n) k (node_of p)
  parent_there n k p own h = record {
    own = level_there n (suc k) own;
    level = level_there p k h.level;
    leads = shows.edges p n h.edge;
    first = first_there;
  }
    where
      first_there : (q : Node) → kept.IsLevel project q k → kept.Leads project q (node_of n) → NodeIsBefore q (node_of p) → ⊥
      first_there q level leads less =
          let m = way_here k q level.way in
          let level_of_m = level_back m.0 k (subst (λ t. kept.IsLevel project t k) (sym m.1) level) in
          let edge = edge_back m.0 n (subst (λ t. kept.Leads project t (node_of n)) (sym m.1) leads) in
          let from : p ≤ m.0 = h.first m.0 level_of_m edge in
          let under : m.0 < p = below m.0 p (subst (λ t. NodeIsBefore t (node_of p)) (sym m.1) less) in absurd (omega arith)

  parent_back : (n k p : ℕ) → kept.IsParent project (node_of n) k (node_of p) → closure.IsParent g n k p
  parent_back n k p h = record {
    level = level_back p k h.level;
    edge = edge_back p n h.leads;
    first = λ q level edge. not_before p q (h.first (node_of q) (level_there q k level) (shows.edges q n edge));
  }

pub kept_alike : KeptAlike
kept_alike g project shows n = (kept_there g project shows n, kept_back g project shows n)

pub levels_alike : LevelsAlike
levels_alike g project shows n k = (level_there g project shows n k, level_back g project shows n k)

pub parents_alike : ParentsAlike
parents_alike g project shows n k p own = (parent_there g project shows n k p own, parent_back g project shows n k p)
