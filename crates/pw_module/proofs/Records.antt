-- Units, roots and types: what is read of them is right and spelled so, and what is right is read again.
use Rattle.std.proofs.Common.{◌≡◌, ℕ, ◌^◌, ◌<◌, List, [], ◌∷◌, ◌++◌, None, refl, ap, subst, ◌∙◌, append_assoc, arith}
use Rattle.std.proofs.lemmas.Bool.{leb-false, lt-leb, not-false, not_from_true}
use Rattle.pw_base.specs.Name.{IsName}
use Rattle.pw_base.specs.Tests.{is_name}
use Rattle.pw_base.proofs.Tests.{name_test_is_right, type_text_test_is_right, type_text_is_short}
use Rattle.pw_module.specs.declared.dep_table.RootRec.{RootRec}
use Rattle.pw_module.specs.declared.dep_table.TypeRec.{TypeRec}
use Rattle.pw_module.specs.Spelling.{number_bytes, sized_string_bytes, root_bytes, type_bytes}
use Rattle.pw_module.specs.Allowed.{IsRootRecord, IsTypeRecord, type_symbol}
use Rattle.pw_module.specs.Reading.{number_at, sized_string_at, Remaining, remaining, unit_record_at, root_record_at, type_fault, type_record_at}
use Rattle.pw_module.proofs.Steps.{bind_ok, want_ok, fine_ok, index_passed, passed, Takes-then}
use Rattle.pw_module.proofs.Fields.{number_takes, number_again, text_takes, text_again}
use Rattle.pw_module.proofs.Repeats.{Taken, TakesEach, ReadsEach, stays}
use Rattle.pw_module.proofs.Numbers.{symbol_from, symbol_to, all_symbols, no_bad_symbol}

-- ---- units

abbrev pub is_unit : ℕ → List ℕ → Type 0
is_unit _ bytes = IsName bytes

pub unit_takes : (total : ℕ) → TakesEach (unit_record_at total) sized_string_bytes is_unit stays
unfolding unit_record_at
unit_takes total k p x fits e =
    let a = bind_ok (sized_string_at total p.rest) _ x e in
    let made : List ℕ × Remaining = (a.0.0, remaining p.former a.0.1) in
    let g = want_ok (is_name a.0.0) _ made x a.2 in
    let t = text_takes total p.rest a.0 fits a.1 in
    subst (λ (y : List ℕ × Remaining). Taken sized_string_bytes is_unit stays p y) g.1 (record { takes = t.0; right = (name_test_is_right a.0.0).0 g.0; leaves = refl })

pub unit_again : (total : ℕ) → ReadsEach (unit_record_at total) sized_string_bytes is_unit stays
unfolding unit_record_at
unit_again total k former bytes rest is =
    let short = is.short in
    let good = (name_test_is_right bytes).1 is in rw (text_again total bytes rest (omega arith), good) refl

-- ---- roots

abbrev pub is_root : ℕ → ℕ → RootRec → Type 0
is_root symbols _ r = IsRootRecord symbols r

pub root_takes : (symbols total : ℕ) → TakesEach (root_record_at symbols total) root_bytes (is_root symbols) stays
unfolding root_record_at root_bytes
root_takes symbols total k p x fits e =
    let a = bind_ok (number_at total p.rest) _ x e in
    let ta = number_takes total p.rest a.0 fits a.1 in
    let b = bind_ok (number_at total a.0.1) _ x a.2 in
    let tb = number_takes total a.0.1 b.0 ta.0.rest_fits b.1 in
    let made : RootRec × Remaining = (record { var = a.0.0; fun = b.0.0 }, remaining p.former b.0.1) in
    let g = fine_ok _ made x b.2 in
    let parts = index_passed k _ _ g.0 in
    let are = all_symbols symbols (a.0.0 ∷ b.0.0 ∷ []) parts.0 in
    let both = Takes-then p.rest (number_bytes a.0.0) a.0.1 (number_bytes b.0.0) b.0.1 ta.0 tb.0 in
    subst (λ (y : RootRec × Remaining). Taken root_bytes (is_root symbols) stays p y) g.1 (record { takes = both; right = (are.0, are.1.0); leaves = refl })

pub root_again : (symbols total : ℕ) → symbols < 2 ^ 32 → ReadsEach (root_record_at symbols total) root_bytes (is_root symbols) stays
unfolding root_record_at root_bytes
root_again symbols total few k former r rest is =
    let var_fits : r.var < 2 ^ 32 = let below = is.0.1 in omega arith in
    let fun_fits : r.fun < 2 ^ 32 = let below = is.1.1 in omega arith in
    let good = no_bad_symbol symbols (r.var ∷ r.fun ∷ []) (is.0, (is.1, tt)) in
    let regrouped : root_bytes r ++ rest ≡ number_bytes r.var ++ (number_bytes r.fun ++ rest) = append_assoc (number_bytes r.var) (number_bytes r.fun) rest in
    ap (λ (t : List ℕ). root_record_at symbols total k (remaining former t)) regrouped
    ∙ rw (number_again total r.var (number_bytes r.fun ++ rest) var_fits, number_again total r.fun rest fun_fits, good) refl

-- ---- types

type_passed : (symbols former k : ℕ) (t : TypeRec) → type_fault symbols former k t ≡ None → IsTypeRecord symbols former t
unfolding type_fault
type_passed symbols former k t e =
    let a = passed _ _ _ e in
    let b = passed _ _ _ a.1 in
    let c = passed _ _ _ b.1 in
    record { symbol = symbol_from symbols t.sym (not-false _ a.0); ascends = leb-false t.sym former b.0; typed = (type_text_test_is_right t.text).0 (not-false _ c.0) }

type_passes : (symbols former k : ℕ) (t : TypeRec) → IsTypeRecord symbols former t → type_fault symbols former k t ≡ None
unfolding type_fault
type_passes symbols former k t is =
    let a = not_from_true _ (symbol_to symbols t.sym is.symbol) in
    let b = lt-leb t.sym former is.ascends in
    let c = not_from_true _ ((type_text_test_is_right t.text).1 is.typed) in rw (a, b, c) refl

pub type_takes : (symbols total : ℕ) → TakesEach (type_record_at symbols total) type_bytes (IsTypeRecord symbols) type_symbol
unfolding type_record_at type_bytes
type_takes symbols total k p x fits e =
    let a = bind_ok (number_at total p.rest) _ x e in
    let ta = number_takes total p.rest a.0 fits a.1 in
    let b = bind_ok (sized_string_at total a.0.1) _ x a.2 in
    let tb = text_takes total a.0.1 b.0 ta.0.rest_fits b.1 in
    let t : TypeRec = record { sym = a.0.0; text = b.0.0 } in
    let made : TypeRec × Remaining = (t, remaining a.0.0 b.0.1) in
    let g = fine_ok (type_fault symbols p.former k t) made x b.2 in
    let both = Takes-then p.rest (number_bytes a.0.0) a.0.1 (sized_string_bytes b.0.0) b.0.1 ta.0 tb.0 in
    subst (λ (y : TypeRec × Remaining). Taken type_bytes (IsTypeRecord symbols) type_symbol p y) g.1 (record { takes = both; right = type_passed symbols p.former k t g.0; leaves = refl })

pub type_again : (symbols total : ℕ) → symbols < 2 ^ 32 → ReadsEach (type_record_at symbols total) type_bytes (IsTypeRecord symbols) type_symbol
unfolding type_record_at type_bytes
type_again symbols total few k former t rest is =
    let sym_fits : t.sym < 2 ^ 32 = let below = is.symbol.1 in omega arith in
    let short = (type_text_is_short t.text is.typed).1 in
    let good = type_passes symbols former k t is in
    let regrouped : type_bytes t ++ rest ≡ number_bytes t.sym ++ (sized_string_bytes t.text ++ rest) = append_assoc (number_bytes t.sym) (sized_string_bytes t.text) rest in
    ap (λ (bytes : List ℕ). type_record_at symbols total k (remaining former bytes)) regrouped
    ∙ rw (number_again total t.sym (sized_string_bytes t.text ++ rest) sym_fits, text_again total t.text rest (omega arith), good) refl
