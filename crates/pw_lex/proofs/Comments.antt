-- Comments as the code reads them are those of the definition.
use Rattle.std.proofs.Common.{◌≡◌, ℕ, ◌+◌, Bool, false, ◌&&◌, inl, inr, [], ◌∷◌, ◌++◌, length, drop, slice_index, Some, None, nat_eq, refl, sym, ap, ◌∙◌, one-add, arith}
use Rattle.std.specs.List.{prefix_len}
use Rattle.std.proofs.lemmas.Bool.{and_parts, cases_Bool, or_parts, or_from, eqb-true, not-false}
use Rattle.pw_lex.specs.Bytes.{Text}
use Rattle.pw_lex.specs.Fault.{not_newline, EndsLine, closes}
use Rattle.pw_lex.specs.Reading.{close_from}

-- a line comment's body is followed by the end of the line or of the text
pub EndsLine-after : (text : Text) → EndsLine (drop (prefix_len not_newline text) text)
EndsLine-after [] = tt
EndsLine-after (byte ∷ text) =
    elim (cases_Bool (not_newline byte)) [
      | inl holds ↦ rw (holds, one-add) (EndsLine-after text)
      | inr fails ↦ rw fails (eqb-true byte 10 (not-false (nat_eq byte 10) fails))
    ]

pub prefix_len_ends : (rest : Text) → EndsLine rest → prefix_len not_newline rest ≡ 0
prefix_len_ends [] ends = refl
prefix_len_ends (byte ∷ rest) ends = rw ends refl

starts_close : ℕ → Text → Bool
starts_close byte text = nat_eq byte 42 && nat_eq (slice_index text 0) 47

-- the length found is that of a body with no */ in it, and of the */
pub record ClosesAt (at : ℕ) (text : Text) (len : ℕ) : Type 0 where
  pub body : Text
  pub rest : Text
  pub text_is : text ≡ body ++ 42 ∷ 47 ∷ rest
  pub first : closes (body ++ 42 ∷ []) ≡ false
  pub len_is : len ≡ at + (length body + 2)

slash_first : (text : Text) → slice_index text 0 ≡ 47 → (rest : Text) × (text ≡ 47 ∷ rest)
slash_first [] is = absurd (omega arith)
slash_first (byte ∷ rest) is = (rest, ap (λ b. b ∷ rest) is)

-- where a body does not begin with */, neither does it with one byte of the close after it
same_first : (body rest : Text) → slice_index (body ++ 42 ∷ 47 ∷ rest) 0 ≡ slice_index (body ++ 42 ∷ []) 0
same_first [] rest = refl
same_first (byte ∷ body) rest = refl

pub close_from-Some : (at : ℕ) (text : Text) (len : ℕ) → close_from at text ≡ Some len → ClosesAt at text len
close_from-Some at [] len found = cc
close_from-Some at (byte ∷ text) len found =
    elim (cases_Bool (nat_eq byte 42 && nat_eq (slice_index text 0) 47)) [
      | inl holds ↦ (
          let parts = and_parts (nat_eq byte 42) (nat_eq (slice_index text 0) 47) holds in
          let star = eqb-true byte 42 parts.0 in
          let slash = slash_first text (eqb-true (slice_index text 0) 47 parts.1) in
          let e : Some (at + 2) ≡ Some len = rw holds at found in
          record { body = []; rest = slash.0; text_is = cc; first = refl; len_is = (let same : at + 2 ≡ len = cc in omega arith) })
      | inr fails ↦ (
          let below = close_from-Some (at + 1) text len (rw fails at found) in
          let first : (nat_eq byte 42 && nat_eq (slice_index (below.body ++ 42 ∷ []) 0) 47) ≡ false =
          ap (λ b. nat_eq byte 42 && nat_eq b 47) (sym (same_first below.body below.rest)) ∙ (rw below.text_is at fails) in
          record {
            body = byte ∷ below.body;
            rest = below.rest;
            text_is = ap (λ t. byte ∷ t) below.text_is;
            first = or_from (nat_eq byte 42 && nat_eq (slice_index (below.body ++ 42 ∷ []) 0) 47) (closes (below.body ++ 42 ∷ [])) first below.first;
            len_is = omega (arith, below.len_is);
          })
    ]

pub close_from-None : (at : ℕ) (text : Text) → close_from at text ≡ None → closes text ≡ false
close_from-None at [] missing = refl
close_from-None at (byte ∷ text) missing =
    elim (cases_Bool (nat_eq byte 42 && nat_eq (slice_index text 0) 47)) [
      | inl holds ↦ (let e = rw holds at missing in cc)
      | inr fails ↦ or_from (nat_eq byte 42 && nat_eq (slice_index text 0) 47) (closes text) fails (close_from-None (at + 1) text (rw fails at missing))
    ]

pub close_from_none : (at : ℕ) (text : Text) → closes text ≡ false → close_from at text ≡ None
close_from_none at [] open_ = refl
close_from_none at (byte ∷ text) open_ =
    let parts = or_parts (nat_eq byte 42 && nat_eq (slice_index text 0) 47) (closes text) open_ in
    rw parts.0 (close_from_none (at + 1) text parts.1)

pub close_from_body : (at : ℕ) (body rest : Text) → closes (body ++ 42 ∷ []) ≡ false →
    close_from at (body ++ 42 ∷ 47 ∷ rest) ≡ Some (at + (length body + 2))
close_from_body at [] rest first = ap (λ n. Some n) (omega arith)
close_from_body at (byte ∷ body) rest first =
    let parts = or_parts (nat_eq byte 42 && nat_eq (slice_index (body ++ 42 ∷ []) 0) 47) (closes (body ++ 42 ∷ [])) first in
    let here : (nat_eq byte 42 && nat_eq (slice_index (body ++ 42 ∷ 47 ∷ rest) 0) 47) ≡ false =
    ap (λ b. nat_eq byte 42 && nat_eq b 47) (same_first body rest) ∙ parts.0 in
    rw here (close_from_body (at + 1) body rest parts.1 ∙ ap (λ n. Some n) (omega arith))
