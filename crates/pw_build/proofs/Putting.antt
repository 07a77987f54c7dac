-- A text and data that are put into fresh regions.
use Rattle.std.proofs.Common.{◌≡◌, ℕ, ◌+◌, ◌-◌, ◌<◌, ◌≤◌, true, false, List, [], ◌∷◌, ◌++◌, length, drop, refl, ap, subst, ◌∙◌, arith, zero-add, append-nil, length-append, length-drop, Result, Ok, Err, ◌==◌}
use Rattle.std.proofs.lemmas.Bool.Decides.{nat_tests}
use Rattle.std.proofs.lemmas.List.{drop-replicate}
use Rattle.pw_mem.specs.declared.errors.Access.{Access}
use Rattle.pw_mem.specs.Regions.{MappedRegion, holds, with_bytes, written}
use Rattle.pw_mem.specs.Memory.{Mem, zeros, put, seal}
use Rattle.pw_mem.specs.States.{MemoryState, with_mem, Writes}
use Rattle.pw_mem.specs.Map.{mapped}
use Rattle.pw_mem.proofs.Zeros.{length_of_zeros}
use Rattle.pw_agree.specs.Placing.{text_of, data_of}
use Rattle.pw_agree.specs.Image.{stack_region}
use Rattle.pw_build.specs.Steps.Memories.{Fit, rounded, regions_of, text_region_of, data_region_of, memory_of}

-- ---- one put

-- what a put that is not refused leaves
wrote_ok : (r : Result Mem Access) (old new : MemoryState) (after : Mem) (result : Result (Unit {0}) Access) →
    Writes r old new result → r ≡ Ok after → new ≡ with_mem old after
wrote_ok r old new after result writes is = ok result (subst (λ q. Writes q old new result) is writes) where
  ok : (result : Result (Unit {0}) Access) → Writes (Ok after) old new result → new ≡ with_mem old after
  ok (Ok _) h = h
  ok (Err _) h = absurd h

-- the region with other bytes at its start
abbrev starting : MappedRegion → List ℕ → MappedRegion
starting r new = record r { bytes = new ++ drop (length new) r.bytes }

with_bytes_at_start : (r : MappedRegion) (new : List ℕ) → with_bytes r r.start new ≡ starting r new
with_bytes_at_start r new = let z : r.start - r.start ≡ 0 = omega arith in rw (z, zero-add (length new)) refl

-- bytes put at the start of the first region
put_first : (r : MappedRegion) (rs : List MappedRegion) (new : List ℕ) → 0 < length new → length new ≤ length r.bytes →
    put (record { regions = r ∷ rs; sealed = false }) r.start new ≡ Ok (record { regions = starting r new ∷ rs; sealed = false })
put_first r rs new some fits =
    let e : (length new == 0) ≡ false = grind (arith, nat_tests) in
    let h : holds r.start (length new) r ≡ true = grind (arith, nat_tests) in
    let w : written (r ∷ rs) r.start new ≡ starting r new ∷ rs = rw h (ap (λ q. q ∷ rs) (with_bytes_at_start r new)) in
    rw (e, h) (ap (λ regions. Ok (record { regions = regions; sealed = false })) w)

-- bytes put at the start of the second region, which lies after the first
put_second : (q r : MappedRegion) (rs : List MappedRegion) (new : List ℕ) → 0 < length new → length new ≤ length r.bytes →
    q.start + length q.bytes ≤ r.start →
    put (record { regions = q ∷ r ∷ rs; sealed = false }) r.start new ≡ Ok (record { regions = q ∷ starting r new ∷ rs; sealed = false })
put_second q r rs new some fits past =
    let e : (length new == 0) ≡ false = grind (arith, nat_tests) in
    let n : holds r.start (length new) q ≡ false = grind (arith, nat_tests) in
    let h : holds r.start (length new) r ≡ true = grind (arith, nat_tests) in
    let w : written (q ∷ r ∷ rs) r.start new ≡ q ∷ starting r new ∷ rs = rw (n, h) (ap (λ p. q ∷ p ∷ rs) (with_bytes_at_start r new)) in
    rw (e, n, h) (ap (λ regions. Ok (record { regions = regions; sealed = false })) w)

-- ---- both

-- the regions as they are mapped
abbrev fresh_text : List ℕ → MappedRegion
fresh_text text =
    record { start = text_of 0; bytes = zeros (rounded (length text)); read = true; write = false; execute = true }

abbrev fresh_data : List ℕ → MappedRegion
fresh_data content = data_region_of (zeros (length content))

drop_zeros : (k n : ℕ) → drop k (zeros n) ≡ zeros (n - k)
unfolding zeros
drop_zeros k n = drop-replicate k n 0

no_zeros : zeros 0 ≡ []
unfolding zeros
no_zeros = refl

-- a text is followed by zeros
text_filled : (text : List ℕ) → starting (fresh_text text) text ≡ text_region_of text
text_filled text =
    ap (λ rest. record { start = text_of 0; bytes = text ++ rest; read = true; write = false; execute = true })
    (drop_zeros (length text) (rounded (length text)))

-- and data by nothing
data_filled : (content : List ℕ) → starting (fresh_data content) content ≡ data_region_of content
data_filled content =
    let none : length content - length content ≡ 0 = omega arith in
    ap data_region_of
    (ap (λ rest. content ++ rest) (drop_zeros (length content) (length content) ∙ ap zeros none ∙ no_zeros) ∙ append-nil content)

-- the text region is as long as it is mapped
length_of_filled : (text : List ℕ) → length (starting (fresh_text text) text).bytes ≡ rounded (length text)
length_of_filled text =
    let rest : List ℕ = drop (length text) (zeros (rounded (length text))) in
    length-append text rest
    ∙ omega (arith, length-drop (length text) (zeros (rounded (length text))), length_of_zeros (rounded (length text)))

-- the memory once the text and the data are put
pub filled : (text content : List ℕ) (s0 s1 s2 : MemoryState) (r1 r2 : Result (Unit {0}) Access) → Fit (length text) (length content) →
    s0.mem ≡ mapped (regions_of (length text) (length content)) → Writes (put s0.mem (text_of 0) text) s0 s1 r1 →
    Writes (put s1.mem (data_of 0) content) s1 s2 r2 → with_mem s2 (seal s2.mem) ≡ with_mem s0 (memory_of text content)
filled text content s0 s1 s2 r1 r2 fit is first second =
    let text_fits = fit.text_fits in
    let text_room : length text ≤ length (zeros (rounded (length text))) = omega (arith, length_of_zeros (rounded (length text))) in
    let data_room : length content ≤ length (zeros (length content)) = omega (arith, length_of_zeros (length content)) in
    let apart : text_of 0 + length (starting (fresh_text text) text).bytes ≤ data_of 0 = omega (arith, length_of_filled text) in
    let rest : List MappedRegion = fresh_data content ∷ stack_region ∷ [] in
    let text_in : Mem = record { regions = starting (fresh_text text) text ∷ rest; sealed = false } in
    let both_in : Mem =
    record { regions = starting (fresh_text text) text ∷ starting (fresh_data content) content ∷ stack_region ∷ []; sealed = false } in
    let text_put : put s0.mem (text_of 0) text ≡ Ok text_in =
    ap (λ m. put m (text_of 0) text) is ∙ put_first (fresh_text text) rest text fit.some_text text_room in
    let one : s1 ≡ with_mem s0 text_in = wrote_ok _ s0 s1 _ r1 first text_put in
    let data_put : put s1.mem (data_of 0) content ≡ Ok both_in =
    ap (λ s. put s.mem (data_of 0) content) one
    ∙ put_second (starting (fresh_text text) text) (fresh_data content) (stack_region ∷ []) content fit.some_data data_room apart in
    let two : s2 ≡ with_mem s0 both_in = wrote_ok _ s1 s2 _ r2 second data_put ∙ ap (λ s. with_mem s both_in) one in
    ap (λ s. with_mem s (seal s.mem)) two
    ∙ (λ p. with_mem s0 (record { regions = text_filled text p ∷ data_filled content p ∷ stack_region ∷ []; sealed = true }))
