-- Text in memory: which instruction word stands at an address.
use Rattle.std.proofs.Common.{◌≡◌, ℕ, zero, suc, ◌+◌, ◌-◌, ◌*◌, ◌%◌, ◌^◌, ◌<◌, true, eqb, List, [], ◌∷◌, ◌++◌, length, take, drop, slice_index, refl, arith, Some, Ok}
use Rattle.std.proofs.lemmas.Bool.Decides.{nat_tests}
use Rattle.pw_base.specs.Bytes.{le_bytes}
use Rattle.pw_base.proofs.Bytes.{le-le_bytes}
use Rattle.pw_mem.specs.Regions.{MappedRegion, region_at}
use Rattle.pw_mem.specs.Memory.{Mem, fetch}
use Rattle.pw_mem.specs.Words.{text_bytes}

-- word `k` of a text has its four bytes at 4 times `k`
pub bytes_of_word : (ws pad : List ℕ) (k : ℕ) → k < length ws → take 4 (drop (4 * k) (text_bytes ws ++ pad)) ≡ le_bytes 4 (slice_index ws k)
bytes_of_word [] pad k h = absurd (omega arith)
bytes_of_word (w ∷ ws) pad zero h = refl
bytes_of_word (w ∷ ws) pad (suc k) h =
    let next : 4 * suc k ≡ suc (suc (suc (suc (4 * k)))) = omega arith in rw next (bytes_of_word ws pad k (omega arith))

-- and is fetched there
pub fetch_word : (m : Mem) (r : MappedRegion) (ws pad : List ℕ) (k : ℕ) → region_at m.regions (r.start + 4 * k) 4 ≡ Some r
    → r.execute ≡ true → r.start % 4 ≡ 0 → r.bytes ≡ text_bytes ws ++ pad → k < length ws → slice_index ws k < 2 ^ 32
    → fetch m (r.start + 4 * k) ≡ Ok (slice_index ws k)
fetch_word m r ws pad k found text aligned bytes in_it small =
    let even : eqb ((r.start + 4 * k) % 4) 0 ≡ true = grind (arith, nat_tests) in
    let place : r.start + 4 * k - r.start ≡ 4 * k = omega arith in
    rw (even, found, text, place, bytes, bytes_of_word ws pad k in_it, le-le_bytes 4 (slice_index ws k) small) refl
