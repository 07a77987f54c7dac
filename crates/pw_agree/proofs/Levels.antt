-- Levels and parents by tests over the ends of ways, and the kept functions by a list of them.
use Rattle.std.proofs.Common.{◌≡◌, ℕ, zero, suc, ◌≤◌, Bool, true, false, List, [], ◌∷◌, map, inl, inr, refl, sym, subst, arith}
use Rattle.std.specs.Prelude.{nat_eq, nat_lt, ◌&&◌, ◌||◌}
use Rattle.std.specs.List.{AllByRecursion, list_any}
use Rattle.std.proofs.lemmas.Bool.Decides.{nat_tests}
use Rattle.pw_tree.specs.Names.{Project, Definition, same_definition}
use Rattle.pw_tree.specs.Depends.{Node, entry, defined}
use Rattle.pw_agree.specs.Kept.{Leads, IsKept, FindsKept, HasWay, IsLevel, IsBefore, by_module, by_unit, by_number, NodeIsBefore, IsParent}
use Rattle.pw_agree.proofs.Members.{IsIn, each_in, any_in, any_gives}
use Rattle.pw_agree.proofs.Listed.{IsClosed, kept_among, ends, way_in}

-- ---- tests

abbrev pub same_node : Node → Node → Bool
same_node entry entry = true
same_node entry (defined d) = false
same_node (defined d) entry = false
same_node (defined d) (defined e) = same_definition d e

same_definition_itself : (d : Definition) → same_definition d d ≡ true
same_definition_itself d = grind (arith, nat_tests)

pub same_definition_is : (d e : Definition) → same_definition d e ≡ true → d ≡ e
same_definition_is d e h =
    let m : d.in_module ≡ e.in_module = grind (arith, nat_tests) in
    let u : d.in_unit ≡ e.in_unit = grind (arith, nat_tests) in
    let i : d.number ≡ e.number = grind (arith, nat_tests) in
    rw (m, u, i) refl

same_node_itself : (n : Node) → same_node n n ≡ true
same_node_itself entry = refl
same_node_itself (defined d) = same_definition_itself d

-- one definition stands before another
abbrev pub is_before : Definition → Definition → Bool
is_before d e =
    nat_lt d.in_module e.in_module
    || (nat_eq d.in_module e.in_module && (nat_lt d.in_unit e.in_unit || (nat_eq d.in_unit e.in_unit && nat_lt d.number e.number)))

abbrev pub node_is_before : Node → Node → Bool
node_is_before entry entry = false
node_is_before entry (defined d) = true
node_is_before (defined d) entry = false
node_is_before (defined d) (defined e) = is_before d e

before_passes : (d e : Definition) → IsBefore d e → is_before d e ≡ true
before_passes d e (by_module m) = grind (arith, nat_tests)
before_passes d e (by_unit m u) = grind (arith, nat_tests)
before_passes d e (by_number m u i) = grind (arith, nat_tests)

node_before_passes : (m n : Node) → NodeIsBefore m n → node_is_before m n ≡ true
node_before_passes entry entry h = absurd h
node_before_passes entry (defined d) h = refl
node_before_passes (defined d) entry h = absurd h
node_before_passes (defined d) (defined e) h = before_passes d e h

-- ---- levels

-- whether a way of fewer than k names leads to a function
abbrev pub is_reached_before : Project → Node → ℕ → Bool
is_reached_before project n zero = false
is_reached_before project n (suc k) = list_any (same_node n) (ends project k) || is_reached_before project n k

reached_at : (project : Project) (n : Node) (j : ℕ) → HasWay project j n → list_any (same_node n) (ends project j) ≡ true
reached_at project n j way = any_in (same_node n) (ends project j) n (way_in project j n way) (same_node_itself n)

no_shorter_way : (project : Project) (n : Node) (k j : ℕ) → is_reached_before project n k ≡ false → HasWay project j n → k ≤ j
no_shorter_way project n zero j none way = omega arith
no_shorter_way project n (suc k) j none way =
    let both = apart (list_any (same_node n) (ends project k)) (is_reached_before project n k) none in
    let above : k ≤ j = no_shorter_way project n k j both.1 way in
    let other : (k ≡ j) → ⊥ = λ e. let at_k : list_any (same_node n) (ends project k) ≡ true = subst (λ i. list_any (same_node n) (ends project i) ≡ true) (sym e) (reached_at project n j way) in
    let not_k = both.0 in cc in
    by_order k j above other
  where
    apart : (a b : Bool) → a || b ≡ false → (a ≡ false) × (b ≡ false)
    apart true b h = cc
    apart false b h = (refl, h)

    by_order : (k j : ℕ) → k ≤ j → (k ≡ j → ⊥) → suc k ≤ j
    by_order k j h other = grind (arith, other)

pub has_level : (project : Project) (n : Node) (k : ℕ) → HasWay project k n → is_reached_before project n k ≡ false → IsLevel project n k
has_level project n k way none = record { way = way; least = λ j other. no_shorter_way project n k j none other }

-- none of the ends of the ways of k names that leads to a function stands before this one
pub has_parent : (project : Project) (n : Node) (k : ℕ) (p : Node) → IsLevel project p k → Leads project p n →
    is_reached_before project n (suc k) ≡ false → AllByRecursion (λ q. node_is_before q p ≡ false) (ends project k) → IsParent project n k p
has_parent project n k p level leads new none = record {
  own = has_level project n (suc k) (p, level.way, leads) new;
  level = level;
  leads = leads;
  first = λ q other leads_too before.
      let passes = node_before_passes q p before in
      let fails = each_in (λ q. node_is_before q p ≡ false) (ends project k) q none (way_in project k q other.way) in cc;
}

-- ---- kept functions

-- the kept functions are those of a list
abbrev pub is_one_of : List Definition → Definition → Bool
is_one_of ds d = list_any (same_definition d) ds

in_map : (ds : List Definition) (d : Definition) → IsIn (map defined ds) (defined d) → is_one_of ds d ≡ true
in_map [] d h = absurd h
in_map (e ∷ es) d (inl is) = let same : e ≡ d = cc in rw (same, same_definition_itself d) refl
in_map (e ∷ es) d (inr h) = rw (in_map es d h) (either_way (same_definition d e))
  where
    either_way : (t : Bool) → t || true ≡ true
    either_way true = refl
    either_way false = refl

in_rest : (ds : List Definition) (d : Definition) → IsIn (entry ∷ map defined ds) (defined d) → is_one_of ds d ≡ true
in_rest ds d (inl e) = cc
in_rest ds d (inr h) = in_map ds d h

pub finds_kept : (project : Project) (ds : List Definition) → AllByRecursion (λ d. IsKept project (defined d)) ds →
    IsClosed project (entry ∷ map defined ds) → FindsKept project (is_one_of ds)
finds_kept project ds kept closed d = (found, λ h. in_rest ds d (kept_among project (entry ∷ map defined ds) (defined d) closed h))
  where
    found : is_one_of ds d ≡ true → IsKept project (defined d)
    found h =
        let one = any_gives (λ e. d ≡ e) (same_definition d) (same_definition_is d) ds h in
        subst (λ e. IsKept project (defined e)) (sym one.2) (each_in (λ e. IsKept project (defined e)) ds one.0 kept one.1)
