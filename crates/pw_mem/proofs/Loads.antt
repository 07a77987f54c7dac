-- A number that was stored is loaded.
use Rattle.std.proofs.Common.{◌≡◌, ℕ, zero, suc, ◌/◌, ◌%◌, ◌^◌, ◌<◌, Bool, true, false, cond, eqb, length, refl, sym, ◌∙◌, ap, arith, Some, option_map, Ok, Err, lit<}
use Rattle.std.proofs.Math.Arith.{mod-mul}
use Rattle.std.proofs.Math.Nat.{one-le-pow, pow-suc}
use Rattle.pw_base.specs.Bytes.{le, le_bytes}
use Rattle.pw_base.proofs.Bytes.{length-le_bytes}
use Rattle.pw_mem.specs.declared.errors.Access.TheVariants.{Misaligned, Denied}
use Rattle.pw_mem.specs.Regions.{MappedRegion, region_at, bytes_at, with_bytes, written}
use Rattle.pw_mem.specs.Memory.{Mem, number_in, load, store}
use Rattle.pw_mem.specs.WriteLaws.{HasWritten}
use Rattle.pw_mem.proofs.Bytes.{bytes_at-with_bytes}
use Rattle.pw_mem.proofs.Regions.{region_at-written, region_at-holds}
use Rattle.pw_mem.proofs.Writes.{stores_write}

-- bytes of a number say what they have of it
pub le-low_bytes : (n v : ℕ) → le (le_bytes n v) ≡ v % 256 ^ n
le-low_bytes zero v = omega arith
le-low_bytes (suc n) v =
    let some : 0 < 256 ^ n = one-le-pow n 256 (lit< tt) in
    let parts = mod-mul v {m = 256 ^ n} {c = 256} some (lit< tt) in rw (le-low_bytes n (v / 256), pow-suc) (omega arith)

readable_of : (r : MappedRegion) (a w u : ℕ) (t : Bool) → r.read ≡ t → cond t (Ok (le (bytes_at r a w))) (Err Denied) ≡ Ok u → r.read ≡ true
readable_of r a w u true is h = is
readable_of r a w u false is h = cc

loaded_after : (m n : Mem) (a w u v : ℕ) (t : Bool) → cond t (number_in (λ r. r.read) (region_at m.regions a w) a w) (Err Misaligned) ≡ Ok u
    → HasWritten m a (le_bytes w v) n → cond t (number_in (λ r. r.read) (region_at n.regions a w) a w) (Err Misaligned) ≡ Ok (v % 256 ^ w)
loaded_after m n a w u v false h wrote = cc
loaded_after m n a w u v true h wrote =
    let size = length-le_bytes w v in
    let found : region_at m.regions a w ≡ Some wrote.region = rw size at wrote.found in
    let held = region_at-holds m.regions a (length (le_bytes w v)) wrote.region wrote.found in
    let readable = readable_of wrote.region a w u wrote.region.read refl (rw found at h) in
    let there : region_at (written m.regions a (le_bytes w v)) a w ≡ Some (with_bytes wrote.region a (le_bytes w v)) =
    ap (region_at (written m.regions a (le_bytes w v)) a) (sym size) ∙ region_at-written m.regions a (le_bytes w v)
    ∙ ap (option_map (λ r. with_bytes r a (le_bytes w v))) wrote.found in
    let bytes : bytes_at (with_bytes wrote.region a (le_bytes w v)) a w ≡ le_bytes w v =
    ap (bytes_at (with_bytes wrote.region a (le_bytes w v)) a) (sym size) ∙ bytes_at-with_bytes wrote.region a (le_bytes w v) held in
    rw (wrote.is, there, readable, bytes, le-low_bytes w v) refl

pub stores_are_loaded : (m n : Mem) (a w u v : ℕ) → load m a w ≡ Ok u → store m a w v ≡ Ok n → load n a w ≡ Ok (v % 256 ^ w)
stores_are_loaded m n a w u v read wrote = loaded_after m n a w u v (eqb (a % w) 0) read (stores_write m n a w v wrote)
