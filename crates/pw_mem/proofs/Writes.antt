-- What a store or a put leaves, and what is read afterwards.
use Rattle.std.proofs.Common.{◌≡◌, ℕ, ◌+◌, ◌%◌, ◌<◌, ◌≤◌, Bool, true, false, not, ◌&&◌, ◌||◌, cond, eqb, List, [], ◌∷◌, length, map, filter, refl, ap, ◌⊎◌, arith, Option, Some, None, Ok, Err}
use Rattle.std.proofs.lemmas.Bool.Decides.{nat_tests}
use Rattle.pw_base.specs.Bytes.{le_bytes}
use Rattle.pw_base.proofs.Bytes.{length-le_bytes}
use Rattle.pw_mem.specs.declared.errors.Access.TheVariants.{Misaligned, Denied}
use Rattle.pw_mem.specs.Regions.{MappedRegion, holds, region_at, bytes_at, with_bytes, written}
use Rattle.pw_mem.specs.Memory.{Mem, with_regions, may_store, may_put, number_in, mem_with, load, store, fetch, put}
use Rattle.pw_mem.specs.WriteLaws.{bytes_of, shape_of, HasWritten}
use Rattle.pw_mem.proofs.Bytes.{length-with_bytes, bytes_at-with_bytes, bytes_at-with_other}
use Rattle.pw_mem.proofs.Regions.{view-written, region_at-written, region_at-holds}
use Rattle.pw_mem.proofs.Words.{number_from_view}

-- a region that may be stored into after the seal is no text
store_no_text : (sealed write execute : Bool) → write && not (sealed && execute) ≡ true → sealed ≡ true → execute ≡ false
store_no_text true true true may is = cc
store_no_text true true false may is = refl
store_no_text true false execute may is = cc
store_no_text false write execute may is = cc

put_no_text : (sealed write execute : Bool) → not sealed || (write && not (sealed && execute)) ≡ true → sealed ≡ true → execute ≡ false
put_no_text true write execute may is = store_no_text true write execute may is
put_no_text false write execute may is = cc

-- what an answered write was
module _ (allowed : MappedRegion → Bool) (m n : Mem) (a : ℕ) (new : List ℕ) (no_text : (r : MappedRegion) → allowed r ≡ true → m.sealed ≡ true → r.execute ≡ false) where
  written_in : (r : MappedRegion) → region_at m.regions a (length new) ≡ Some r → (t : Bool) → allowed r ≡ t
      → cond t (Ok (with_regions m (written m.regions a new))) (Err Denied) ≡ Ok n → HasWritten m a new n
  written_in r found true may h = record { region = r; found = found; no_text = no_text r may; is = cc }
  written_in r found false may h = cc

  has_written : (o : Option MappedRegion) → region_at m.regions a (length new) ≡ o → mem_with allowed o m a new ≡ Ok n
      → HasWritten m a new n
  has_written None found h = cc
  has_written (Some r) found h = written_in r found (allowed r) refl h

store_writes : (m n : Mem) (a w v : ℕ) (t : Bool)
    → cond t (mem_with (may_store m.sealed) (region_at m.regions a w) m a (le_bytes w v)) (Err Misaligned) ≡ Ok n
    → HasWritten m a (le_bytes w v) n
store_writes m n a w v true h =
    has_written (may_store m.sealed) m n a (le_bytes w v) (λ r may is. store_no_text m.sealed r.write r.execute may is) (region_at m.regions a w) (ap (region_at m.regions a) (length-le_bytes w v)) h
store_writes m n a w v false h = cc

pub stores_write : (m n : Mem) (a w v : ℕ) → store m a w v ≡ Ok n → HasWritten m a (le_bytes w v) n
stores_write m n a w v h = store_writes m n a w v (eqb (a % w) 0) h

put_writes : (m n : Mem) (a : ℕ) (new : List ℕ) (t : Bool) → eqb (length new) 0 ≡ t → 0 < length new
    → cond t (Ok m) (mem_with (may_put m.sealed) (region_at m.regions a (length new)) m a new) ≡ Ok n → HasWritten m a new n
put_writes m n a new true none some h = absurd (grind (arith, nat_tests))
put_writes m n a new false none some h =
    has_written (may_put m.sealed) m n a new (λ r may is. put_no_text m.sealed r.write r.execute may is) (region_at m.regions a (length new)) refl h

pub puts_write : (m n : Mem) (a : ℕ) (new : List ℕ) → 0 < length new → put m a new ≡ Ok n → HasWritten m a new n
puts_write m n a new some h = put_writes m n a new (eqb (length new) 0) refl some h

-- what is read there then
pub written_bytes_are_read : (m n : Mem) (a : ℕ) (new : List ℕ) → HasWritten m a new n → bytes_of n a (length new) ≡ Some new
written_bytes_are_read m n a new w =
    let held = region_at-holds m.regions a (length new) w.region w.found in
    rw (w.is, region_at-written m.regions a new, w.found, bytes_at-with_bytes w.region a new held) refl

-- and beside it
pub other_bytes_stay : (m n : Mem) (a b k : ℕ) (new : List ℕ) → HasWritten m a new n → (a + length new ≤ b) ⊎ (b + k ≤ a)
    → bytes_of n b k ≡ bytes_of m b k
other_bytes_stay m n a b k new w beside =
    rw w.is (view-written (λ r. bytes_at r b k) a b k new m.regions (λ r found held. bytes_at-with_other r a b k new (region_at-holds m.regions a (length new) r found) held beside))

number_beside : (m : Mem) (a b k : ℕ) (new : List ℕ) → (a + length new ≤ b) ⊎ (b + k ≤ a) → (t : Bool)
    → cond t (number_in (λ r. r.read) (region_at (written m.regions a new) b k) b k) (Err Misaligned) ≡ cond t (number_in (λ r. r.read) (region_at m.regions b k) b k) (Err Misaligned)
number_beside m a b k new beside false = refl
number_beside m a b k new beside true =
    number_from_view (λ r. r.read) b k _ _ (view-written (λ r. number_in (λ q. q.read) (Some r) b k) a b k new m.regions (λ r found held.
    rw (bytes_at-with_other r a b k new (region_at-holds m.regions a (length new) r found) held beside) refl))

pub other_numbers_stay : (m n : Mem) (a b k : ℕ) (new : List ℕ) → HasWritten m a new n → (a + length new ≤ b) ⊎ (b + k ≤ a)
    → load n b k ≡ load m b k
other_numbers_stay m n a b k new w beside = rw w.is (number_beside m a b k new beside (eqb (b % k) 0))

-- regions keep their places and rights
shape_step : (r : MappedRegion) (rs after : List MappedRegion) (a : ℕ) (new : List ℕ) → map shape_of after ≡ map shape_of rs → (t : Bool)
    → holds a (length new) r ≡ t → map shape_of (cond t (with_bytes r a new ∷ rs) (r ∷ after)) ≡ shape_of r ∷ map shape_of rs
shape_step r rs after a new rest true held = rw (length-with_bytes r a new held) refl
shape_step r rs after a new rest false held = ap (λ shapes. shape_of r ∷ shapes) rest

pub shapes_written : (rs : List MappedRegion) (a : ℕ) (new : List ℕ) → map shape_of (written rs a new) ≡ map shape_of rs
shapes_written [] a new = refl
shapes_written (r ∷ rs) a new = shape_step r rs (written rs a new) a new (shapes_written rs a new) (holds a (length new) r) refl

pub shapes_stay : (m n : Mem) (a : ℕ) (new : List ℕ) → HasWritten m a new n
    → (map shape_of n.regions ≡ map shape_of m.regions) × (n.sealed ≡ m.sealed)
shapes_stay m n a new w = (rw w.is (shapes_written m.regions a new), rw w.is refl)

-- the text stays
text_step : (r : MappedRegion) (rs after : List MappedRegion) (a : ℕ) (new : List ℕ)
    → ((q : MappedRegion) → region_at (r ∷ rs) a (length new) ≡ Some q → q.execute ≡ false)
    → (((q : MappedRegion) → region_at rs a (length new) ≡ Some q → q.execute ≡ false) → filter (λ q. q.execute) after ≡ filter (λ q. q.execute) rs) → (t : Bool) → holds a (length new) r ≡ t → filter (λ q. q.execute) (cond t (with_bytes r a new ∷ rs) (r ∷ after)) ≡ cond r.execute (r ∷ filter (λ q. q.execute) rs) (filter (λ q. q.execute) rs)
text_step r rs after a new plain rest true held = let no : r.execute ≡ false = plain r (rw held refl) in rw no refl
text_step r rs after a new plain rest false held =
    let same : filter (λ q. q.execute) after ≡ filter (λ q. q.execute) rs = rest (λ q found. plain q (rw held found)) in rw same refl

text_written : (rs : List MappedRegion) (a : ℕ) (new : List ℕ)
    → ((q : MappedRegion) → region_at rs a (length new) ≡ Some q → q.execute ≡ false)
    → filter (λ q. q.execute) (written rs a new) ≡ filter (λ q. q.execute) rs
text_written [] a new plain = refl
text_written (r ∷ rs) a new plain = text_step r rs (written rs a new) a new plain (text_written rs a new) (holds a (length new) r) refl

only_region : (m n : Mem) (a : ℕ) (new : List ℕ) → HasWritten m a new n → m.sealed ≡ true → (q : MappedRegion)
    → region_at m.regions a (length new) ≡ Some q → q.execute ≡ false
only_region m n a new w sealed q found = let same : q ≡ w.region = cc (w.found, found) in rw same (w.no_text sealed)

pub sealed_text_stays : (m n : Mem) (a : ℕ) (new : List ℕ) → HasWritten m a new n → m.sealed ≡ true
    → filter (λ q. q.execute) n.regions ≡ filter (λ q. q.execute) m.regions
sealed_text_stays m n a new w sealed = rw w.is (text_written m.regions a new (only_region m n a new w sealed))

instruction_stays : (m : Mem) (a b : ℕ) (new : List ℕ)
    → ((q : MappedRegion) → region_at m.regions a (length new) ≡ Some q → q.execute ≡ false) → (t : Bool)
    → cond t (number_in (λ r. r.execute) (region_at (written m.regions a new) b 4) b 4) (Err Misaligned) ≡ cond t (number_in (λ r. r.execute) (region_at m.regions b 4) b 4) (Err Misaligned)
instruction_stays m a b new plain false = refl
instruction_stays m a b new plain true =
    number_from_view (λ r. r.execute) b 4 _ _ (view-written (λ r. number_in (λ q. q.execute) (Some r) b 4) a b 4 new m.regions (λ r found held.
    let no : r.execute ≡ false = plain r found in rw no refl))

pub sealed_instructions_stay : (m n : Mem) (a b : ℕ) (new : List ℕ) → HasWritten m a new n → m.sealed ≡ true → fetch n b ≡ fetch m b
sealed_instructions_stay m n a b new w sealed =
    rw w.is (instruction_stays m a b new (only_region m n a new w sealed) (eqb (b % 4) 0))
