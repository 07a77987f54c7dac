-- Words: what a load and a store of one give, and what a store leaves of the others and of the text.
use Rattle.std.proofs.Common.{◌≡◌, ℕ, ◌+◌, ◌%◌, ◌^◌, ◌<◌, ◌≤◌, ◌≢◌, Bool, true, false, not, ◌&&◌, cond, eqb, refl, ◌⊎◌, arith, Option, Some, None, option_map, Ok, Err}
use Rattle.std.proofs.lemmas.Bool.Decides.{nat_tests}
use Rattle.pw_base.specs.Bytes.{le, le_bytes}
use Rattle.pw_base.proofs.Bytes.{le-le_bytes}
use Rattle.pw_mem.specs.declared.errors.Access.TheVariants.{Misaligned}
use Rattle.pw_mem.specs.Regions.{MappedRegion, region_at, bytes_at, written}
use Rattle.pw_mem.specs.Memory.{Mem, may_store, number_in, load, store, fetch}
use Rattle.pw_mem.specs.Words.{doubleword_in, doubleword, put_doubleword}
use Rattle.pw_mem.proofs.Bytes.{bytes_at-with_bytes, bytes_at-with_other}
use Rattle.pw_mem.proofs.Regions.{view-written, region_at-written, region_at-holds}

-- what an address that has a doubleword says of the memory
pub record HasWord (m : Mem) (a v : ℕ) : Type 0 where
  pub region : MappedRegion
  pub found : region_at m.regions a 8 ≡ Some region
  pub aligned : eqb (a % 8) 0 ≡ true
  pub readable : region.read ≡ true
  pub storable : may_store m.sealed region ≡ true
  pub value : le (bytes_at region a 8) ≡ v

word_of_rights : (m : Mem) (a v : ℕ) (r : MappedRegion) → region_at m.regions a 8 ≡ Some r → eqb (a % 8) 0 ≡ true → (t u : Bool)
    → r.read ≡ t → may_store m.sealed r ≡ u → cond (t && u) (Some (le (bytes_at r a 8))) None ≡ Some v → HasWord m a v
word_of_rights m a v r found even true true er eu h = record { region = r; found = found; aligned = even; readable = er; storable = eu; value = cc }
word_of_rights m a v r found even true false er eu h = cc
word_of_rights m a v r found even false u er eu h = cc

word_of_region : (m : Mem) (a v : ℕ) → eqb (a % 8) 0 ≡ true → (o : Option MappedRegion) → region_at m.regions a 8 ≡ o
    → doubleword_in m.sealed o a ≡ Some v → HasWord m a v
word_of_region m a v even None found h = cc
word_of_region m a v even (Some r) found h = word_of_rights m a v r found even r.read (may_store m.sealed r) refl refl h

word_of_test : (m : Mem) (a v : ℕ) (t : Bool) → eqb (a % 8) 0 ≡ t
    → cond t (doubleword_in m.sealed (region_at m.regions a 8) a) None ≡ Some v → HasWord m a v
word_of_test m a v true even h = word_of_region m a v even (region_at m.regions a 8) refl h
word_of_test m a v false even h = cc

pub has_word : (m : Mem) (a v : ℕ) → doubleword m a ≡ Some v → HasWord m a v
has_word m a v h = word_of_test m a v (eqb (a % 8) 0) refl h

-- a doubleword is what a load of 8 bytes gives
pub load_word : (m : Mem) (a v : ℕ) → doubleword m a ≡ Some v → load m a 8 ≡ Ok v
load_word m a v h = let w = has_word m a v h in rw (w.aligned, w.found, w.readable, w.value) refl

-- and a store of 8 bytes puts another in its place
pub store_word : (m : Mem) (a v x : ℕ) → doubleword m a ≡ Some v → store m a 8 x ≡ Ok (put_doubleword m a x)
store_word m a v x h = let w = has_word m a v h in rw (w.aligned, w.found, w.storable) refl

-- which is the doubleword then
pub word-put_same : (m : Mem) (a v x : ℕ) → x < 2 ^ 64 → doubleword m a ≡ Some v → doubleword (put_doubleword m a x) a ≡ Some x
word-put_same m a v x small h =
    let w = has_word m a v h in
    let held = region_at-holds m.regions a 8 w.region w.found in
    rw (w.aligned, region_at-written m.regions a (le_bytes 8 x), w.found, w.readable, w.storable, bytes_at-with_bytes w.region a (le_bytes 8 x) held, le-le_bytes 8 x small) refl

-- equal views of what is found give equal words, and equal numbers
word_from_view : (sealed : Bool) (b : ℕ) (x y : Option MappedRegion)
    → option_map (λ r. doubleword_in sealed (Some r) b) x ≡ option_map (λ r. doubleword_in sealed (Some r) b) y
    → doubleword_in sealed x b ≡ doubleword_in sealed y b
word_from_view sealed b None None e = refl
word_from_view sealed b None (Some r) e = cc
word_from_view sealed b (Some q) None e = cc
word_from_view sealed b (Some q) (Some r) e = cc

pub number_from_view : (allowed : MappedRegion → Bool) (b n : ℕ) (x y : Option MappedRegion)
    → option_map (λ r. number_in allowed (Some r) b n) x ≡ option_map (λ r. number_in allowed (Some r) b n) y
    → number_in allowed x b n ≡ number_in allowed y b n
number_from_view allowed b n None None e = refl
number_from_view allowed b n None (Some r) e = cc
number_from_view allowed b n (Some q) None e = cc
number_from_view allowed b n (Some q) (Some r) e = cc

-- another doubleword stays
word_at_other : (m : Mem) (a b v x : ℕ) → HasWord m a v → a ≢ b → (t : Bool) → eqb (b % 8) 0 ≡ t
    → cond t (doubleword_in m.sealed (region_at (written m.regions a (le_bytes 8 x)) b 8) b) None ≡ cond t (doubleword_in m.sealed (region_at m.regions b 8) b) None
word_at_other m a b v x w apart false even = refl
word_at_other m a b v x w apart true even =
    let a_even = w.aligned in
    let beside : (a + 8 ≤ b) ⊎ (b + 8 ≤ a) = grind (arith, nat_tests) in
    word_from_view m.sealed b _ _ (view-written (λ r. doubleword_in m.sealed (Some r) b) a b 8 (le_bytes 8 x) m.regions (λ r found held.
    rw (bytes_at-with_other r a b 8 (le_bytes 8 x) (region_at-holds m.regions a 8 r found) held beside) refl))

pub word-put_other : (m : Mem) (a b v x : ℕ) → doubleword m a ≡ Some v → a ≢ b → doubleword (put_doubleword m a x) b ≡ doubleword m b
word-put_other m a b v x h apart = word_at_other m a b v x (has_word m a v h) apart (eqb (b % 8) 0) refl

-- after the seal a doubleword is outside the text, so storing one changes no instruction
not_text : (write execute : Bool) → write && not (true && execute) ≡ true → execute ≡ false
not_text true true h = cc
not_text true false h = refl
not_text false execute h = cc

fetch_after : (m : Mem) (a b v x : ℕ) → HasWord m a v → m.sealed ≡ true → (t : Bool)
    → cond t (number_in (λ r. r.execute) (region_at (written m.regions a (le_bytes 8 x)) b 4) b 4) (Err Misaligned) ≡ cond t (number_in (λ r. r.execute) (region_at m.regions b 4) b 4) (Err Misaligned)
fetch_after m a b v x w sealed false = refl
fetch_after m a b v x w sealed true =
    number_from_view (λ r. r.execute) b 4 _ _ (view-written (λ r. number_in (λ q. q.execute) (Some r) b 4) a b 4 (le_bytes 8 x) m.regions (λ r found held.
    let same : r ≡ w.region = cc in
    let plain : r.execute ≡ false = rw same (not_text w.region.write w.region.execute (rw sealed at w.storable)) in rw plain refl))

pub fetch-put_word : (m : Mem) (a b v x : ℕ) → m.sealed ≡ true → doubleword m a ≡ Some v → fetch (put_doubleword m a x) b ≡ fetch m b
fetch-put_word m a b v x sealed h = fetch_after m a b v x (has_word m a v h) sealed (eqb (b % 4) 0)
