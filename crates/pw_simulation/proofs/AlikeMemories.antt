-- Memories that differ in their text alone: what a load or a store of one gives that cannot read its text, another gives too.
use Rattle.std.proofs.Common.{◌≡◌, ℕ, ◌+◌, ◌*◌, ◌%◌, Bool, true, false, not, ◌&&◌, cond, eqb, List, [], ◌∷◌, length, map, Option, Some, None, Ok, Err, ◌⊎◌, inl, inr, refl, sym, ◌∙◌, ap}
use Rattle.std.specs.Prelude.{option_map}
use Rattle.pw_base.specs.Bytes.{le_bytes}
use Rattle.pw_isa.specs.declared.instruction.Inst.{Inst}
use Rattle.pw_tree.specs.Names.{Definition}
use Rattle.pw_tree.specs.States.{Value}
use Rattle.pw_mem.specs.declared.errors.Access.TheVariants.{Misaligned, Denied}
use Rattle.pw_mem.specs.Regions.{MappedRegion, holds, region_at, bytes_at, with_bytes, written}
use Rattle.pw_mem.specs.Memory.{Mem, with_regions, may_store, number_in, mem_with, load, store, fetch}
use Rattle.pw_mem.specs.Words.{doubleword, doubleword_in}
use Rattle.pw_mem.proofs.Bytes.{length-with_bytes}
use Rattle.pw_mem.proofs.Writes.{stores_write, shapes_stay, sealed_instructions_stay}
use Rattle.pw_simulation.specs.World.{World}
use Rattle.pw_simulation.specs.Memories.{Fetches, IsReady}
use Rattle.pw_simulation.specs.Values.{AreCarried}

-- ---- regions

-- two texts of one place and length, the first of which no load reads and no store writes
pub record AreTexts (r q : MappedRegion) : Type 0 where
  pub start : q.start ≡ r.start
  pub size : length q.bytes ≡ length r.bytes
  pub no_read : r.read ≡ false
  pub no_write : r.write ≡ false

abbrev pub IsLike : (r q : MappedRegion) → Type 0
IsLike r q = (q ≡ r) ⊎ AreTexts r q

abbrev pub AreLike : (rs qs : List MappedRegion) → Type 0
AreLike [] [] = Unit {0}
AreLike (r ∷ rs) (q ∷ qs) = IsLike r q × AreLike rs qs
AreLike [] (q ∷ qs) = ⊥
AreLike (r ∷ rs) [] = ⊥

-- regions that are alike hold the same places
holds_same : (at n : ℕ) (r q : MappedRegion) → IsLike r q → holds at n q ≡ holds at n r
holds_same at n r q (inl e) = ap (holds at n) e
holds_same at n r q (inr t) = rw (t.start, t.size) refl

-- a region that may be read or written is found in both
found_by : (r q d : MappedRegion) (o p : Option MappedRegion) → IsLike r q → (d.read ≡ true) ⊎ (d.write ≡ true) → (o ≡ Some d → p ≡ Some d) → (t : Bool)
    → cond t (Some r) o ≡ Some d → cond t (Some q) p ≡ Some d
found_by r q d o p like may rest false h = rest h
found_by r q d o p (inl e) may rest true h = cc
found_by r q d o p (inr t) (inl may) rest true h = let same : r ≡ d = cc in let no = t.no_read in cc
found_by r q d o p (inr t) (inr may) rest true h = let same : r ≡ d = cc in let no = t.no_write in cc

pub found_same : (rs qs : List MappedRegion) (at n : ℕ) (d : MappedRegion) → AreLike rs qs → (d.read ≡ true) ⊎ (d.write ≡ true) → region_at rs at n ≡ Some d → region_at qs at n ≡ Some d
found_same [] [] at n d like may h = cc
found_same [] (q ∷ qs) at n d like may h = absurd like
found_same (r ∷ rs) [] at n d like may h = absurd like
found_same (r ∷ rs) (q ∷ qs) at n d like may h =
    rw (holds_same at n r q like.0) (found_by r q d (region_at rs at n) (region_at qs at n) like.0 may (found_same rs qs at n d like.1 may) (holds at n r) h)

-- ---- loads

read_by : (r : MappedRegion) (p : Option MappedRegion) (at width v : ℕ) → (r.read ≡ true → p ≡ Some r) → (t : Bool) → r.read ≡ t
    → cond t (Ok (Rattle.pw_base.specs.Bytes.le (bytes_at r at width))) (Err Denied) ≡ Ok v → number_in (λ q. q.read) p at width ≡ Ok v
read_by r p at width v finds true e h = rw (finds e, e) h
read_by r p at width v finds false e h = cc

number_by : (o p : Option MappedRegion) (at width v : ℕ) → ((d : MappedRegion) → d.read ≡ true → o ≡ Some d → p ≡ Some d) → number_in (λ q. q.read) o at width ≡ Ok v
    → number_in (λ q. q.read) p at width ≡ Ok v
number_by None p at width v finds h = cc
number_by (Some r) p at width v finds h = read_by r p at width v (λ may. finds r may refl) r.read refl h

load_by : (o p : Option MappedRegion) (at width v : ℕ) → ((d : MappedRegion) → d.read ≡ true → o ≡ Some d → p ≡ Some d) → (t : Bool)
    → cond t (number_in (λ q. q.read) o at width) (Err Misaligned) ≡ Ok v → cond t (number_in (λ q. q.read) p at width) (Err Misaligned) ≡ Ok v
load_by o p at width v finds true h = number_by o p at width v finds h
load_by o p at width v finds false h = cc

-- what is loaded from one is loaded from the other
pub load_same : (m n : Mem) (at width v : ℕ) → AreLike m.regions n.regions → load m at width ≡ Ok v → load n at width ≡ Ok v
load_same m n at width v like h =
    load_by (region_at m.regions at width) (region_at n.regions at width) at width v (λ d may found. found_same m.regions n.regions at width d like (inl may) found) (eqb (at % width) 0) h

-- ---- stores

both_left : (s t : Bool) → s && t ≡ true → s ≡ true
both_left true t h = refl
both_left false t h = cc

may_by : (m n after : Mem) (r : MappedRegion) (p : Option MappedRegion) (at : ℕ) (new : List ℕ) → n.sealed ≡ m.sealed → (r.write ≡ true → p ≡ Some r) → (t : Bool) → may_store m.sealed r ≡ t
    → cond t (Ok (with_regions m (written m.regions at new))) (Err Denied) ≡ Ok after → mem_with (may_store n.sealed) p n at new ≡ Ok (with_regions n (written n.regions at new))
may_by m n after r p at new same finds true e h =
    let may : may_store n.sealed r ≡ true = ap (λ s. may_store s r) same ∙ e in
    rw (finds (both_left r.write (not (m.sealed && r.execute)) e), may) refl
may_by m n after r p at new same finds false e h = cc

stored_by : (m n after : Mem) (o p : Option MappedRegion) (at : ℕ) (new : List ℕ) → n.sealed ≡ m.sealed → ((d : MappedRegion) → d.write ≡ true → o ≡ Some d → p ≡ Some d)
    → mem_with (may_store m.sealed) o m at new ≡ Ok after → mem_with (may_store n.sealed) p n at new ≡ Ok (with_regions n (written n.regions at new))
stored_by m n after None p at new same finds h = cc
stored_by m n after (Some r) p at new same finds h = may_by m n after r p at new same (λ may. finds r may refl) (may_store m.sealed r) refl h

store_by : (m n after : Mem) (o p : Option MappedRegion) (at : ℕ) (new : List ℕ) → n.sealed ≡ m.sealed → ((d : MappedRegion) → d.write ≡ true → o ≡ Some d → p ≡ Some d) → (t : Bool)
    → cond t (mem_with (may_store m.sealed) o m at new) (Err Misaligned) ≡ Ok after
    → cond t (mem_with (may_store n.sealed) p n at new) (Err Misaligned) ≡ Ok (with_regions n (written n.regions at new))
store_by m n after o p at new same finds true h = stored_by m n after o p at new same finds h
store_by m n after o p at new same finds false h = cc

-- what is stored in one is stored in the other
pub store_same : (m n after : Mem) (at width value : ℕ) → AreLike m.regions n.regions → n.sealed ≡ m.sealed → store m at width value ≡ Ok after
    → store n at width value ≡ Ok (with_regions n (written n.regions at (le_bytes width value)))
store_same m n after at width value like same h =
    store_by m n after (region_at m.regions at width) (region_at n.regions at width) at (le_bytes width value) same
    (λ d may found. found_same m.regions n.regions at width d like (inr may) found) (eqb (at % width) 0) h

like_written : (r q : MappedRegion) (at : ℕ) (new : List ℕ) → IsLike r q → holds at (length new) r ≡ true → IsLike (with_bytes r at new) (with_bytes q at new)
like_written r q at new (inl e) held = inl (ap (λ d. with_bytes d at new) e)
like_written r q at new (inr t) held =
    inr (record {
      start = t.start;
      size = length-with_bytes q at new (holds_same at (length new) r q (inr t) ∙ held) ∙ t.size ∙ sym (length-with_bytes r at new held);
      no_read = t.no_read;
      no_write = t.no_write;
    })

written_by : (r q : MappedRegion) (rs qs : List MappedRegion) (at : ℕ) (new : List ℕ) → IsLike r q → AreLike rs qs → AreLike (written rs at new) (written qs at new) → (t : Bool)
    → holds at (length new) r ≡ t
    → AreLike (cond t (with_bytes r at new ∷ rs) (r ∷ written rs at new)) (cond t (with_bytes q at new ∷ qs) (q ∷ written qs at new))
written_by r q rs qs at new like likes rest true held = (like_written r q at new like held, likes)
written_by r q rs qs at new like likes rest false held = (like, rest)

-- what is alike stays so
pub written_alike : (rs qs : List MappedRegion) (at : ℕ) (new : List ℕ) → AreLike rs qs → AreLike (written rs at new) (written qs at new)
written_alike [] [] at new like = tt
written_alike [] (q ∷ qs) at new like = absurd like
written_alike (r ∷ rs) [] at new like = absurd like
written_alike (r ∷ rs) (q ∷ qs) at new like =
    rw (holds_same at (length new) r q like.0) (written_by r q rs qs at new like.0 like.1 (written_alike rs qs at new like.1) (holds at (length new) r) refl)

-- ---- memories

-- code is fetched from a sealed memory
pub record HasCode (code : ℕ → Option Inst) (m : Mem) : Type 0 where
  pub sealed : m.sealed ≡ true
  pub text : (at : ℕ) (i : Inst) → code at ≡ Some i → Fetches m at i

-- and still is after a store
pub code_stays : (code : ℕ → Option Inst) (m n : Mem) (at width value : ℕ) → HasCode code m → store m at width value ≡ Ok n → HasCode code n
code_stays code m n at width value has h =
    let w = stores_write m n at width value h in
    record {
      sealed = (shapes_stay m n at (le_bytes width value) w).1 ∙ has.sealed;
      text = λ place i there.
          let f = has.text place i there in
          record { value = f.value; fetched = sealed_instructions_stay m n at place (le_bytes width value) w has.sealed ∙ f.fetched; reads = f.reads };
    }

-- ---- a memory whose text cannot be read

abbrev pub hide : MappedRegion → MappedRegion
hide r = record r { read = not r.execute && r.read }

abbrev pub hidden : Mem → Mem
hidden m = with_regions m (map hide m.regions)

hidden_found : (rs : List MappedRegion) (at n : ℕ) → region_at (map hide rs) at n ≡ option_map hide (region_at rs at n)
hidden_found [] at n = refl
hidden_found (r ∷ rs) at n = by_test (holds at n r) (hidden_found rs at n)
  where
    by_test : (t : Bool) → region_at (map hide rs) at n ≡ option_map hide (region_at rs at n)
        → cond t (Some (hide r)) (region_at (map hide rs) at n) ≡ option_map hide (cond t (Some r) (region_at rs at n))
    by_test true rest = refl
    by_test false rest = rest

-- its code is fetched as before,
word_hidden : (o : Option MappedRegion) (at : ℕ) → number_in (λ q. q.execute) (option_map hide o) at 4 ≡ number_in (λ q. q.execute) o at 4
word_hidden None at = refl
word_hidden (Some r) at = refl

fetch_hidden : (m : Mem) (at : ℕ) → fetch (hidden m) at ≡ fetch m at
fetch_hidden m at =
    ap (λ o. cond (eqb (at % 4) 0) (number_in (λ q. q.execute) o at 4) (Err Misaligned)) (hidden_found m.regions at 4)
    ∙ ap (λ answer. cond (eqb (at % 4) 0) answer (Err Misaligned)) (word_hidden (region_at m.regions at 4) at)

-- and its doublewords are what they were
rights_hidden : (read write execute : Bool) → (not execute && read) && (write && not (true && execute)) ≡ read && (write && not (true && execute))
rights_hidden read write false = refl
rights_hidden true true true = refl
rights_hidden true false true = refl
rights_hidden false write true = refl

number_hidden : (o : Option MappedRegion) (at : ℕ) → doubleword_in true (option_map hide o) at ≡ doubleword_in true o at
number_hidden None at = refl
number_hidden (Some r) at = ap (λ t. cond t (Some (Rattle.pw_base.specs.Bytes.le (bytes_at r at 8))) None) (rights_hidden r.read r.write r.execute)

doubleword_hidden : (m : Mem) (at : ℕ) → m.sealed ≡ true → doubleword (hidden m) at ≡ doubleword m at
doubleword_hidden m at sealed =
    rw sealed
    (ap (λ o. cond (eqb (at % 8) 0) (doubleword_in true o at) None) (hidden_found m.regions at 8)
    ∙ ap (λ number. cond (eqb (at % 8) 0) number None) (number_hidden (region_at m.regions at 8) at))

-- so it is ready where the memory is
pub ready_hidden : (w : World) (m : Mem) → IsReady w m → IsReady w (hidden m)
ready_hidden w m ready = record {
  sealed = ready.sealed;
  text = λ at i there. let f = ready.text at i there in record { value = f.value; fetched = fetch_hidden m at ∙ f.fetched; reads = f.reads };
  slots = λ k name has. doubleword_hidden m (w.slot_place k name) ready.sealed ∙ ready.slots k name has;
  stack = λ at in_it. let s = ready.stack at in_it in record { value = s.value; is = doubleword_hidden m at ready.sealed ∙ s.is };
}

pub carried_hidden : (w : World) (variables : Definition → ℕ → Value) (m : Mem) → m.sealed ≡ true → AreCarried w variables m → AreCarried w variables (hidden m)
carried_hidden w variables m sealed carried d i x is =
    let c = carried d i x is in record { word = c.word; is = doubleword_hidden m (w.variable_place d + 8 * i) sealed ∙ c.is; represents = c.represents }
