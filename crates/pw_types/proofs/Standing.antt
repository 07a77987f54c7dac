-- Phrases that stand in order of text, each with faults of its own at its last token: the order of all their faults.
use Rattle.std.proofs.Common.{◌≡◌, ℕ, suc, ◌≤◌, ◌<◌, List, [], ◌∷◌, ◌++◌, map, arith, refl, ◌⊎◌, inl, inr}
use Rattle.std.specs.List.{All, AllPairs}
use Rattle.std.proofs.lemmas.List.Elements.{All-nil, All-cons}
use Rattle.std.proofs.lemmas.List.Kept.{AllPairs-cons}
use Rattle.std.proofs.lemmas.Bool.{cases_lt}
use Rattle.pw_types.specs.declared.fault.Fault.{Fault}
use Rattle.pw_types.specs.Nests.{Nest, Nests, nest, none, more, Nested, walk, walk_all}
use Rattle.pw_types.specs.Laws.{rank, Precedes}
use Rattle.pw_types.proofs.OwnFaults.{Rises, ends, goes}

-- ---- phrases in order

-- A phrase stands between two tokens, its parts within it, each after the last, and its own faults are at its end.
mutual
  pub data Stands : ℕ → ℕ → Nest → Type 0 where
    stands : {low high top : ℕ} {ns : Nests} {own : List Fault} (end : ℕ) → low ≤ end → end ≤ high → AllStand low end ns →
        Rises end 0 top own → Stands low high (nest ns own)

  pub data AllStand : ℕ → ℕ → Nests → Type 0 where
    no_more : {low high : ℕ} → AllStand low high none
    one_more : {low high : ℕ} {n : Nest} {ns : Nests} (middle : ℕ) → Stands low middle n → middle ≤ high →
        AllStand (suc middle) high ns → AllStand low high (more n ns)

mutual
  pub stands_from : {low high : ℕ} {n : Nest} (lower : ℕ) → lower ≤ low → Stands low high n → Stands lower high n
  stands_from lower h (stands end from to ns own) = stands end (omega arith) to (all_from lower h ns) own

  pub all_from : {low high : ℕ} {ns : Nests} (lower : ℕ) → lower ≤ low → AllStand low high ns → AllStand lower high ns
  all_from lower h no_more = no_more
  all_from lower h (one_more middle n to ns) = one_more middle (stands_from lower h n) to ns

pub stands_bounds : {low high : ℕ} {n : Nest} → Stands low high n → low ≤ high
stands_bounds (stands end from to ns own) = omega arith

-- ---- lists of faults in order

-- this holds of each
pub data Each (P : Nested → Type 0) : List Nested → Type 0 where
  nil : Each P []
  cons : {m : Nested} {ms : List Nested} → P m → Each P ms → Each P (m ∷ ms)

each_append : {P : Nested → Type 0} {ms ns : List Nested} → Each P ms → Each P ns → Each P (ms ++ ns)
each_append nil q = q
each_append (cons p ps) q = cons p (each_append ps q)

pub each_also : {P Q : Nested → Type 0} {ms : List Nested} → ((m : Nested) → P m → Q m) → Each P ms → Each Q ms
each_also f nil = nil
each_also f (cons {m = m} p ps) = cons (f m p) (each_also f ps)

pub each_is_all : {P : Nested → Type 0} {ms : List Nested} → Each P ms → All P ms
each_is_all {P = P} nil = All-nil P
each_is_all {P = P} (cons {m = m} {ms = ms} p ps) = All-cons P m ms p (each_is_all ps)

-- each precedes all after it
pub data Sorted : List Nested → Type 0 where
  nil : Sorted []
  cons : {m : Nested} {ms : List Nested} → Each (Precedes m) ms → Sorted ms → Sorted (m ∷ ms)

sorted_append : {ms ns : List Nested} → Sorted ms → Sorted ns → Each (λ m. Each (Precedes m) ns) ms → Sorted (ms ++ ns)
sorted_append nil t nil = t
sorted_append (cons h s) t (cons p ps) = cons (each_append h p) (sorted_append s t ps)

pub sorted_pairs : {ms : List Nested} → Sorted ms → AllPairs Precedes ms
sorted_pairs nil = λ i j d h k. absurd (omega arith)
sorted_pairs (cons {m = m} {ms = ms} h s) = AllPairs-cons Precedes m ms (each_is_all h) (sorted_pairs s)

-- ---- the faults of phrases in order

-- a phrase within so many others or more, between these tokens
pub record Among (depth low high : ℕ) (m : Nested) : Type 0 where
  pub deep : depth ≤ m.depth
  pub from : low ≤ m.fault.at
  pub to : m.fault.at ≤ high

pub record Orderly (depth low high : ℕ) (ms : List Nested) : Type 0 where
  pub sorted : Sorted ms
  pub among : Each (Among depth low high) ms

abbrev pub at_depth : ℕ → Fault → Nested
at_depth depth f = record { depth = depth; fault = f }

before_own : {at low high : ℕ} {fs : List Fault} (depth : ℕ) (f : Fault) → f.at ≡ at → rank f.rule ≤ low →
    Rises at low high fs →
    Each (Precedes (at_depth depth f)) (map (at_depth depth) fs)
before_own depth f e h (ends k) = nil
before_own depth f e h (goes {f = g} {fs = gs} same k r) =
    let one : f.at ≡ g.at = omega (arith, e, same) in
    let below : rank f.rule < rank g.rule = omega arith in
    cons (inr (one, inr (refl, below))) (before_own depth f e (omega arith) r)

sorted_own : {at low high : ℕ} {fs : List Fault} (depth : ℕ) → Rises at low high fs → Sorted (map (at_depth depth) fs)
sorted_own depth (ends k) = nil
sorted_own depth (goes {f = f} e k r) = cons (before_own depth f e (omega arith) r) (sorted_own depth r)

-- they are at the last token, and within no more than so many phrases
record Own (depth at : ℕ) (m : Nested) : Type 0 where
  pub shallow : m.depth ≡ depth
  pub here : m.fault.at ≡ at

each_own : {at low high : ℕ} {fs : List Fault} (depth : ℕ) → Rises at low high fs →
    Each (Own depth at) (map (at_depth depth) fs)
each_own depth (ends k) = nil
each_own depth (goes e k r) = cons (record { shallow = refl; here = e }) (each_own depth r)

part_first : {depth low end : ℕ} (m n : Nested) → Among (suc depth) low end m → Own depth end n → Precedes m n
part_first {end = end} m n a o =
    by (cases_lt m.fault.at end)
  where
    by : (m.fault.at < end) ⊎ (end ≤ m.fault.at) → Precedes m n
    by (inl h) = inl (omega (arith, o.here))
    by (inr h) = inr (omega (arith, a.to, o.here), inl (omega (arith, a.deep, o.shallow)))

mutual
  unfolding walk

  pub walk_orderly : {low high : ℕ} {n : Nest} (depth : ℕ) → Stands low high n → Orderly depth low high (walk depth n)
  walk_orderly depth (stands end from to ns own) =
      let inside = walk_all_orderly (suc depth) ns in
      record {
        sorted = sorted_append inside.sorted (sorted_own depth own)
            (each_also (λ m a. each_also (λ n o. part_first m n a o) (each_own depth own)) inside.among);
        among = each_append
            (each_also (λ m a. record { deep = omega (arith, a.deep); from = a.from; to = omega (arith, a.to) }) inside.among)
            (each_also (λ m o. record { deep = omega (arith, o.shallow); from = omega (arith, o.here); to = omega (arith, o.here) }) (each_own depth own));
      }

  pub walk_all_orderly : {low high : ℕ} {ns : Nests} (depth : ℕ) → AllStand low high ns →
      Orderly depth low high (walk_all depth ns)
  walk_all_orderly depth no_more = record { sorted = nil; among = nil }
  walk_all_orderly depth (one_more middle n to ns) =
      let first = walk_orderly depth n in
      let others = walk_all_orderly depth ns in
      let apart = stands_bounds n in
      record {
        sorted = sorted_append first.sorted others.sorted
            (each_also (λ m a. each_also (λ k b. inl (omega (arith, a.to, b.from))) others.among) first.among);
        among = each_append
            (each_also (λ m a. record { deep = a.deep; from = a.from; to = omega (arith, a.to) }) first.among)
            (each_also (λ m b. record { deep = b.deep; from = omega (arith, b.from); to = b.to }) others.among);
      }
