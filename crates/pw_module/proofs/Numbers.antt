-- What the tests of symbols, units and ranges say.
use Rattle.std.proofs.Common.{◌≡◌, ℕ, ◌+◌, ◌%◌, ◌^◌, ◌<◌, ◌≤◌, Bool, true, false, cond, List, [], ◌∷◌, Option, Some, None, refl, sym, arith}
use Rattle.std.specs.Prelude.{nat_eq}
use Rattle.std.specs.List.{AllByRecursion}
use Rattle.std.proofs.lemmas.Bool.{eqb-true, eqb-false, ne_eqb, eq-eqb, ltb-true, ltb-false, lt-ltb, le-ltb, not-false, not_from_true}
use Rattle.pw_module.specs.declared.dep_table.FunRec.{FunRec}
use Rattle.pw_module.specs.Spelling.{no_unit, unit_number}
use Rattle.pw_module.specs.Allowed.{IsSymbolNumber, IsUnitNumber}
use Rattle.pw_module.specs.Reading.{is_symbol, bad_in, unit_from_number, unit_or, bad_index, range_fault, end_fault}
use Rattle.pw_module.proofs.Steps.{passed, kept}

both : (a b : Bool) → cond a b false ≡ true → (a ≡ true) × (b ≡ true)
both true b e = (refl, e)
both false b e = absurd cc

pub symbol_from : (symbols n : ℕ) → is_symbol symbols n ≡ true → IsSymbolNumber symbols n
symbol_from symbols n e = let parts = both _ _ e in (ltb-true 0 n parts.0, ltb-true n symbols parts.1)

pub symbol_to : (symbols n : ℕ) → IsSymbolNumber symbols n → is_symbol symbols n ≡ true
symbol_to symbols n is = let a = lt-ltb 0 n is.0 in rw a (lt-ltb n symbols is.1)

pub all_symbols : (symbols : ℕ) (ns : List ℕ) → bad_in symbols ns ≡ None → AllByRecursion (IsSymbolNumber symbols) ns
all_symbols symbols [] e = tt
all_symbols symbols (n ∷ ns) e = let parts = kept _ _ _ e in (symbol_from symbols n parts.0, all_symbols symbols ns parts.1)

pub no_bad_symbol : (symbols : ℕ) (ns : List ℕ) → AllByRecursion (IsSymbolNumber symbols) ns → bad_in symbols ns ≡ None
no_bad_symbol symbols [] all = refl
no_bad_symbol symbols (n ∷ ns) all = let good = symbol_to symbols n all.0 in rw good (no_bad_symbol symbols ns all.1)

-- symbols fit a field
pub symbols_fit : (symbols : ℕ) (ns : List ℕ) → symbols < 2 ^ 32 → AllByRecursion (IsSymbolNumber symbols) ns → AllByRecursion (λ n. n < 2 ^ 32) ns
symbols_fit symbols [] few all = tt
symbols_fit symbols (n ∷ ns) few all = let below = all.0.1 in (omega arith, symbols_fit symbols ns few all.1)

-- a unit's number and back
number_back : (n : ℕ) (b : Bool) → nat_eq n no_unit ≡ b → unit_number (cond b None (Some n)) ≡ n
number_back n true e = sym (eqb-true n no_unit e)
number_back n false e = refl

pub unit_number-unit_from_number : (n : ℕ) → unit_number (unit_from_number n) ≡ n
unit_number-unit_from_number n = number_back n (nat_eq n no_unit) refl

pub unit_from_number-unit_number : (units : ℕ) (unit : Option ℕ) → units < 2 ^ 32 → IsUnitNumber units unit →
    unit_from_number (unit_number unit) ≡ unit
unit_from_number-unit_number units None few is = refl
unit_from_number-unit_number units (Some unit) few is = let other : nat_eq unit no_unit ≡ false = ne_eqb unit no_unit (λ same. omega arith) in rw other refl

pub unit_number_fits : (units : ℕ) (unit : Option ℕ) → units < 2 ^ 32 → IsUnitNumber units unit → unit_number unit < 2 ^ 32
unit_number_fits units None few is = omega arith
unit_number_fits units (Some unit) few is = omega arith

unit_passed : (units : ℕ) (unit : Option ℕ) (other : Option ℕ) → unit_or units unit other ≡ None → IsUnitNumber units unit × (other ≡ None)
unit_passed units None other e = (tt, e)
unit_passed units (Some unit) other e = let parts = kept _ _ _ e in (ltb-true unit units parts.0, parts.1)

unit_passes : (units : ℕ) (unit : Option ℕ) (other : Option ℕ) → IsUnitNumber units unit → unit_or units unit other ≡ other
unit_passes units None other is = refl
unit_passes units (Some unit) other is = let below = lt-ltb unit units is in rw below refl

-- a function without a bad index names symbols and a unit
pub index_passed_is : (symbols units : ℕ) (f : FunRec) → bad_index symbols units f ≡ None →
    IsSymbolNumber symbols f.sym × IsUnitNumber units f.unit × AllByRecursion (IsSymbolNumber symbols) f.deps
unfolding bad_index
index_passed_is symbols units f e =
    let a = kept _ _ _ e in
    let b = unit_passed units f.unit (bad_in symbols f.deps) a.1 in (symbol_from symbols f.sym a.0, b.0, all_symbols symbols f.deps b.1)

pub index_passes : (symbols units : ℕ) (f : FunRec) → IsSymbolNumber symbols f.sym → IsUnitNumber units f.unit →
    AllByRecursion (IsSymbolNumber symbols) f.deps → bad_index symbols units f ≡ None
unfolding bad_index
index_passes symbols units f sym_is unit_is deps_are =
    let good = symbol_to symbols f.sym sym_is in rw (good, unit_passes units f.unit (bad_in symbols f.deps) unit_is) (no_bad_symbol symbols f.deps deps_are)

-- a function in its place
pub record InPlace (text former : ℕ) (f : FunRec) : Type 0 where
  pub starts : f.start ≡ former
  pub some : 0 < f.size
  pub whole : f.size % 4 ≡ 0
  pub ends : f.start + f.size ≤ text

pub range_passed : (text former k : ℕ) (f : FunRec) → range_fault text former k f ≡ None → InPlace text former f
unfolding range_fault
range_passed text former k f e =
    let a = passed _ _ _ e in
    let b = passed _ _ _ a.1 in
    let c = passed _ _ _ b.1 in
    let d = passed _ _ _ c.1 in
    let g = passed _ _ _ d.1 in
    let low : former ≤ f.start = ltb-false f.start former a.0 in
    let high : f.start ≤ former = ltb-false former f.start d.0 in
    let not_zero = eqb-false f.size 0 b.0 in
    record { starts = omega (arith, low, high); some = omega (arith, not_zero); whole = eqb-true _ _ (not-false _ c.0); ends = ltb-false _ _ g.0 }

pub range_passes : (text former k : ℕ) (f : FunRec) → InPlace text former f → range_fault text former k f ≡ None
unfolding range_fault
range_passes text former k f is =
    let starts = is.starts in
    let some = is.some in
    let a = le-ltb f.start former (omega arith) in
    let b = ne_eqb f.size 0 (λ zero_size. omega arith) in
    let c = not_from_true _ (eq-eqb (f.size % 4) 0 is.whole) in
    let d = le-ltb former f.start (omega arith) in
    let g = le-ltb text (f.start + f.size) is.ends in rw (a, b, c, d, g) refl

-- the last function ends with the text
pub end_passed : (text count last : ℕ) → end_fault text count last ≡ None → text ≤ last
unfolding end_fault
end_passed text count last e = let a = passed _ _ _ e in ltb-false _ _ a.0

pub end_passes : (text count last : ℕ) → last ≡ text → end_fault text count last ≡ None
unfolding end_fault
end_passes text count last same = let a = le-ltb last text (omega arith) in rw a refl
