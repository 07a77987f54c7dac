-- The laws of the faults of a unit.
use Rattle.std.proofs.Common.{◌≡◌, ℕ, ◌-◌, ◌≤◌, ◌<◌, List, [], ◌∷◌, length, map, arith, refl, sym, ap, subst, ◌∙◌, ◌⊎◌, inl, inr}
use Rattle.std.specs.Prelude.{Some, All}
use Rattle.std.proofs.lemmas.List.Elements.{All-nil, All-cons}
use Rattle.std.proofs.Math.Nat.{eq-zero-or-pos}
use Rattle.pw_tree.specs.Declarations.{Declaration, UntypedUnit}
use Rattle.pw_tree.specs.Placed.{AreDeclarationsPlaced, IsParsed}
use Rattle.pw_types.specs.declared.fault.Fault.{Fault}
use Rattle.pw_types.specs.Faults.{first_of}
use Rattle.pw_types.specs.Units.{files_after}
use Rattle.pw_types.specs.Steps.UnitFaults.{faults_in_order}
use Rattle.pw_types.specs.Steps.UnitFaults.{faults_of_declarations}
use Rattle.pw_types.specs.Nests.{Nested, walk, unit, faults_of}
use Rattle.pw_types.specs.Laws.{Precedes, FaultsAscend, FirstEndsFirst, FaultsAreWithin}
use Rattle.pw_types.proofs.Standing.{Each, nil, cons, Sorted, sorted_pairs, Orderly, walk_orderly, each_also}
use Rattle.pw_types.proofs.Standing as standing
use Rattle.pw_types.proofs.Gathering.{walk_is_flat}
use Rattle.pw_types.proofs.StandingUnits.{unit_faults, unit_stands}

-- the checker meets them in their order
pub faults_are : (u : UntypedUnit) → faults_of u ≡ faults_in_order u
faults_are u = walk_is_flat 0 (unit u) ∙ unit_faults u

orderly : (u : UntypedUnit) → IsParsed u → Orderly 0 0 (length u.lines - 1) (walk 0 (unit u))
orderly u w = walk_orderly 0 (unit_stands u w)

pub faults_ascend : FaultsAscend
faults_ascend u w = sorted_pairs (orderly u w).sorted

-- ---- the first of them

each_fault : (P : Fault → Type 0) {ms : List Nested} → Each (λ m. P m.fault) ms → All P (map (λ m. m.fault) ms)
each_fault P nil = All-nil P
each_fault P (cons {m = m} {ms = ms} p ps) = All-cons P m.fault (map (λ m. m.fault) ms) p (each_fault P ps)

no_later : (m n : Nested) → Precedes m n → m.fault.at ≤ n.fault.at
no_later m n (inl h) = omega arith
no_later m n (inr h) = omega (arith, h.0)

first_is_least : {ms : List Nested} (f : Fault) → Sorted ms → first_of (map (λ m. m.fault) ms) ≡ Some f →
    All (λ g. f.at ≤ g.at) (map (λ m. m.fault) ms)
first_is_least f standing.nil e = All-nil _
first_is_least f (standing.cons {m = m} {ms = ms} h s) e =
    let same : m.fault ≡ f = cc in
    subst (λ x. All (λ g. x.at ≤ g.at) (map (λ n. n.fault) (m ∷ ms))) same
    (All-cons (λ g. m.fault.at ≤ g.at) m.fault (map (λ n. n.fault) ms) (omega arith)
    (each_fault (λ g. m.fault.at ≤ g.at) (each_also (λ n p. no_later m n p) h)))

pub first_ends_first : FirstEndsFirst
first_ends_first u f w e = first_is_least f (orderly u w).sorted e

-- ---- where they are

-- a unit without tokens has no declaration, and so no fault
no_declarations : (ds : List Declaration) (n : ℕ) → n ≡ 0 → AreDeclarationsPlaced 0 n ds → ds ≡ []
unfolding AreDeclarationsPlaced
no_declarations [] n e p = refl
no_declarations (d ∷ ds) n e p = absurd (omega (arith, e, p.0.to))

no_faults : (u : UntypedUnit) → u.declarations ≡ [] → faults_in_order u ≡ []
unfolding faults_of_declarations files_after
no_faults u e = ap (λ ds. faults_in_order (record u { declarations = ds })) e

within_or_none : (u : UntypedUnit) → IsParsed u → (length u.lines ≡ 0) ⊎ (0 < length u.lines) →
    All (λ f. f.at < length u.lines) (faults_of u)
within_or_none u w (inl e) =
    subst (All (λ f. f.at < length u.lines)) (sym (faults_are u ∙ no_faults u (no_declarations u.declarations (length u.lines) e w.placed))) (All-nil _)
within_or_none u w (inr some) =
    each_fault (λ f. f.at < length u.lines) (each_also (λ m a. omega (arith, a.to)) (orderly u w).among)

pub faults_are_within : FaultsAreWithin
faults_are_within u w = within_or_none u w (eq-zero-or-pos (length u.lines))
