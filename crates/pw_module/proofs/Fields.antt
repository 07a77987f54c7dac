-- A number or a text that is read was spelled so, and what is spelled is read again.
use Rattle.std.proofs.Common.{◌≡◌, ℕ, ◌^◌, ◌<◌, ◌≤◌, false, List, ◌++◌, length, drop, take, Option, Some, None, Ok, refl, sym, ap, subst, ◌∙◌, append_assoc, arith}
use Rattle.std.specs.Prelude.{nat_lt}
use Rattle.std.proofs.lemmas.Bool.{ltb-false, le-ltb}
use Rattle.std.proofs.lemmas.List.{take_at, drop_at, take-append-drop, length-append, length-take-le}
use Rattle.pw_base.specs.Field.{field, first_field}
use Rattle.pw_base.proofs.Bytes.{AreBytes-drop}
use Rattle.pw_base.proofs.Fields.{written_field_is_read, read_field_is_written, length-field}
use Rattle.pw_module.specs.Spelling.{number_bytes, sized_string_bytes}
use Rattle.pw_module.specs.Reading.{number_or, number_at, sized_string_at}
use Rattle.pw_base.specs.Bytes.{AreBytes}
use Rattle.pw_module.proofs.Steps.{bind_ok, ok_is, guard_ok, Takes, Takes-then}

number_or_ok : (total : ℕ) (rest : List ℕ) (o : Option ℕ) (x : ℕ × List ℕ) → number_or total rest o ≡ Ok x → (o ≡ Some x.0) × (drop 4 rest ≡ x.1)
number_or_ok total rest None x e = absurd cc
number_or_ok total rest (Some n) x e =
    let same = ok_is (n, drop 4 rest) x e in (ap (λ (y : ℕ × List ℕ). Some y.0) same, ap (λ (y : ℕ × List ℕ). y.1) same)

pub number_takes : (total : ℕ) (rest : List ℕ) (x : ℕ × List ℕ) → AreBytes rest → number_at total rest ≡ Ok x →
    Takes rest (number_bytes x.0) x.1 × (x.0 < 2 ^ 32)
unfolding number_at
number_takes total rest x fits e =
    let o = number_or_ok total rest (first_field 4 rest) x e in
    let w = read_field_is_written 4 rest x.0 fits o.0 in
    (record { parts = w.0 ∙ ap (λ (t : List ℕ). field 4 x.0 ++ t) o.1; rest_fits = subst AreBytes o.1 (AreBytes-drop 4 rest fits) }, w.1)

pub number_again : (total n : ℕ) (rest : List ℕ) → n < 2 ^ 32 → number_at total (number_bytes n ++ rest) ≡ Ok (n, rest)
unfolding number_at
number_again total n rest small = rw (written_field_is_read 4 n rest small, drop_at (field 4 n) rest 4 (length-field 4 n)) refl

pub text_takes : (total : ℕ) (rest : List ℕ) (x : List ℕ × List ℕ) → AreBytes rest → sized_string_at total rest ≡ Ok x →
    Takes rest (sized_string_bytes x.0) x.1 × (length x.0 < 2 ^ 32)
unfolding sized_string_at
text_takes total rest x fits e =
    let a = bind_ok (number_at total rest) _ x e in
    let count = a.0.0 in
    let after = a.0.1 in
    let g = guard_ok _ _ (take count after, drop count after) x a.2 in
    let n = number_takes total rest a.0 fits a.1 in
    let enough : count ≤ length after = ltb-false _ _ g.0 in
    let len : length (take count after) ≡ count = length-take-le count after enough in
    let later : Takes after (take count after) (drop count after) = record { parts = sym (take-append-drop count after); rest_fits = AreBytes-drop count after n.0.rest_fits } in
    let both = Takes-then rest (number_bytes count) after (take count after) (drop count after) n.0 later in
    let spelled : Takes rest (sized_string_bytes (take count after)) (drop count after) = subst (λ (c : ℕ). Takes rest (number_bytes c ++ take count after) (drop count after)) (sym len) both in
    subst (λ (y : List ℕ × List ℕ). Takes rest (sized_string_bytes y.0) y.1 × (length y.0 < 2 ^ 32)) g.1 (spelled, rw len n.1)

pub text_again : (total : ℕ) (bytes rest : List ℕ) → length bytes < 2 ^ 32 →
    sized_string_at total (sized_string_bytes bytes ++ rest) ≡ Ok (bytes, rest)
unfolding sized_string_at
text_again total bytes rest small =
    let regrouped : sized_string_bytes bytes ++ rest ≡ number_bytes (length bytes) ++ (bytes ++ rest) = append_assoc (number_bytes (length bytes)) bytes rest in
    let enough : nat_lt (length (bytes ++ rest)) (length bytes) ≡ false = le-ltb _ _ (omega (arith, length-append bytes rest)) in
    ap (sized_string_at total) regrouped ∙ rw (number_again total (length bytes) (bytes ++ rest) small, enough, take_at bytes rest (length bytes) refl, drop_at bytes rest (length bytes) refl) refl
