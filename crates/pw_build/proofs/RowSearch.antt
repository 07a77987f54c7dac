-- A search of rows, one after another, for the one in whose function an address lies.
use Rattle.std.proofs.Common.{◌≡◌, ℕ, ◌+◌, ◌<◌, ◌≤◌, false, List, length, get_or, Some, ◌⊎◌, inl, inr, refl, sym, ap, subst, arith, nat_cmp, is_le, is_lt}
use Rattle.std.specs.Prelude.{slice_get}
use Rattle.std.proofs.Math.Nat.{eq-or-lt_of_le}
use Rattle.std.proofs.lemmas.Bool.Decides.{nat_tests}
use Rattle.std.proofs.lemmas.List.Sums.{sum_by_more}
use Rattle.std.proofs.lemmas.Option.{slice_get_read}
use Rattle.pw_module.specs.declared.kept_row.KeptRow.{KeptRow}
use Rattle.pw_simulation.proofs.Joined.{got_below}
use Rattle.pw_build.specs.Extents.{start_of_row, HoldsAddress, FindsRow}

-- a number outside a range is not both at its start or above and below its end
outside_range : (start end at : ℕ) → (is_le (nat_cmp start at) ≡ false) ⊎ (is_lt (nat_cmp at end) ≡ false) → start ≤ at → at < end → ⊥
outside_range start end at cases from to = grind (arith, nat_tests)

-- the next row starts where a row ends
pub next_start : (rows : List KeptRow) (i : ℕ) (row : KeptRow) → i < length rows → row ≡ get_or rows i row →
    start_of_row rows (i + 1) ≡ start_of_row rows i + row.bytes
next_start rows i row within is =
    let bytes : get_or rows i row ≡ row = sym is in
    omega (arith, sum_by_more (λ (r : KeptRow). r.bytes) rows i row within, ap (λ (r : KeptRow). r.bytes) bytes)

-- rows of one place are one
one_row : {row other : KeptRow} (rows : List KeptRow) (i : ℕ) → slice_get rows i ≡ Some row → slice_get rows i ≡ Some other → row ≡ other
one_row rows i there also = cc

-- where no row before one holds an address, and it is outside the range of this, none up to it does
pub none_up_to : (rows : List KeptRow) (at i : ℕ) (row : KeptRow) (start end : ℕ) → i < length rows → row ≡ get_or rows i row →
    start ≡ start_of_row rows i → end ≡ start + row.bytes → (is_le (nat_cmp start at) ≡ false) ⊎ (is_lt (nat_cmp at end) ≡ false) →
    ((m : ℕ) → m < i → HoldsAddress rows at m → ⊥) → (m : ℕ) → m < i + 1 → HoldsAddress rows at m → ⊥
none_up_to rows at i row start end within is start_is end_is outside before m below holds = by_place (eq-or-lt_of_le (omega arith)) where
  by_place : (m ≡ i) ⊎ (m < i) → ⊥
  by_place (inl same) =
      let here : HoldsAddress rows at i = subst (HoldsAddress rows at) same holds in
      let row_is : here.row ≡ row = one_row rows i here.there (slice_get_read rows (length rows) i row refl within is) in
      let bytes : here.row.bytes ≡ row.bytes = ap (λ (r : KeptRow). r.bytes) row_is in
      outside_range start end at outside (omega (arith, here.from, start_is)) (omega (arith, here.to, start_is, end_is, bytes))
  by_place (inr less) = before m less holds

-- an address that none of the rows holds
pub none_holds : (rows : List KeptRow) (at n i : ℕ) → n ≡ i → i ≤ length rows → length rows ≤ i →
    ((m : ℕ) → m < i → HoldsAddress rows at m → ⊥) → FindsRow rows at n
none_holds rows at n i is within past before =
    inr (omega arith, λ m holds. before m (let b = got_below rows m holds.row holds.there in omega arith) holds)
