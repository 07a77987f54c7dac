-- Bytes of a region, and what a write leaves of them.
use Rattle.std.proofs.Common.{◌≡◌, ℕ, ◌+◌, ◌-◌, ◌^◌, ◌<◌, ◌≤◌, true, List, ◌++◌, length, take, drop, ◌⊎◌, arith, rules, inl, inr, lit<}
use Rattle.std.proofs.Math.Nat.{pow-le-pow_right}
use Rattle.std.proofs.lemmas.Bool.Decides.{nat_tests}
use Rattle.std.proofs.lemmas.List.{same_lists, places}
use Rattle.pw_mem.specs.Regions.{MappedRegion, holds, bytes_at, with_bytes}

-- what holding bytes says of places
pub holds_from : (at n : ℕ) (r : MappedRegion) → holds at n r ≡ true → r.start ≤ at
holds_from at n r h = grind (arith, nat_tests)

pub holds_to : (at n : ℕ) (r : MappedRegion) → holds at n r ≡ true → at + n ≤ r.start + length r.bytes
holds_to at n r h = grind (arith, nat_tests)

-- bytes put over others of a list leave its length
pub length-put_over : (xs new : List ℕ) (i : ℕ) → i + length new ≤ length xs
    → length (take i xs ++ new ++ drop (i + length new) xs) ≡ length xs
length-put_over xs new i fits = search (rules, places)

-- and they stand at their place
pub read_same : (xs new : List ℕ) (i : ℕ) → i + length new ≤ length xs
    → take (length new) (drop i (take i xs ++ new ++ drop (i + length new) xs)) ≡ new
read_same xs new i fits = same_lists _ _ (search (rules, places)) (λ k d h. grind (arith, places))

-- and what is beside them stays
pub read_beside : (xs new : List ℕ) (i j n : ℕ) → i + length new ≤ length xs → j + n ≤ length xs → (i + length new ≤ j) ⊎ (j + n ≤ i)
    → take n (drop j (take i xs ++ new ++ drop (i + length new) xs)) ≡ take n (drop j xs)
read_beside xs new i j n fits in_it (inl after) = same_lists _ _ (search (rules, places)) (λ k d h. grind (arith, places))
read_beside xs new i j n fits in_it (inr before) = same_lists _ _ (search (rules, places)) (λ k d h. grind (arith, places))

-- a write into a region that holds its places leaves the number of bytes
pub length-with_bytes : (r : MappedRegion) (at : ℕ) (new : List ℕ) → holds at (length new) r ≡ true
    → length (with_bytes r at new).bytes ≡ length r.bytes
length-with_bytes r at new h =
    let low = holds_from at (length new) r h in
    let high = holds_to at (length new) r h in length-put_over r.bytes new (at - r.start) (omega arith)

-- what was written is read there
pub bytes_at-with_bytes : (r : MappedRegion) (at : ℕ) (new : List ℕ) → holds at (length new) r ≡ true
    → bytes_at (with_bytes r at new) at (length new) ≡ new
bytes_at-with_bytes r at new h =
    let low = holds_from at (length new) r h in
    let high = holds_to at (length new) r h in read_same r.bytes new (at - r.start) (omega arith)

-- and beside it what stood there before
pub bytes_at-with_other : (r : MappedRegion) (a b n : ℕ) (new : List ℕ) → holds a (length new) r ≡ true → holds b n r ≡ true
    → (a + length new ≤ b) ⊎ (b + n ≤ a) → bytes_at (with_bytes r a new) b n ≡ bytes_at r b n
bytes_at-with_other r a b n new ha hb (inl after) =
    let a_low = holds_from a (length new) r ha in
    let a_high = holds_to a (length new) r ha in
    let b_low = holds_from b n r hb in
    let b_high = holds_to b n r hb in
    read_beside r.bytes new (a - r.start) (b - r.start) n (omega arith) (omega arith) (inl (omega arith))
bytes_at-with_other r a b n new ha hb (inr before) =
    let a_low = holds_from a (length new) r ha in
    let a_high = holds_to a (length new) r ha in
    let b_low = holds_from b n r hb in
    let b_high = holds_to b n r hb in
    read_beside r.bytes new (a - r.start) (b - r.start) n (omega arith) (omega arith) (inr (omega arith))

-- a number of at most 7 bytes leaves room for one more
pub room_for_byte : (k v : ℕ) → k ≤ 7 → v < 256 ^ k → v < 256 ^ 7
room_for_byte k v few small =
    let most : 256 ^ k ≤ 256 ^ 7 = pow-le-pow_right (lit< tt) few in omega arith
