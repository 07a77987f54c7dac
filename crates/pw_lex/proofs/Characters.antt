-- Character constants as the code reads them are those of the definition.
use Rattle.std.proofs.Common.{◌≡◌, ℕ, Bool, true, false, not, ◌&&◌, ◌||◌, cond, [], ◌∷◌, ◌++◌, length, slice_index, Option, Some, None, option_map, nat_eq, refl, sym, ap, ◌∙◌, subst}
use Rattle.std.proofs.lemmas.Bool.{and_parts, eqb-true, not-true, or_parts, and_left, and_from, cond-true, cond-false}
use Rattle.pw_base.specs.Name.{is_from}
use Rattle.pw_lex.specs.Bytes.{Text}
use Rattle.pw_lex.specs.Character.{IsCharacter, plain, escape, is_plain, escaped}
use Rattle.pw_lex.specs.Reading.{character_of}

-- the text begins with a character constant of this value and length
pub record BeginsCharacter (text : Text) (value len : ℕ) : Type 0 where
  pub bytes : Text
  pub rest : Text
  pub text_is : text ≡ bytes ++ rest
  pub is : IsCharacter bytes value
  pub len_is : len ≡ length bytes

abbrev pub pair : ℕ → ℕ → ℕ × ℕ
pair a b = (a, b)

some_same : (a b : ℕ × ℕ) → Some a ≡ Some b → a ≡ b
some_same a b same = cc

escaped_is : (c d : ℕ) (more : Text) (value len : ℕ) (found : Option ℕ) → escaped c ≡ found → d ≡ 39
    → option_map (λ v. pair v 4) found ≡ Some (pair value len) → BeginsCharacter (39 ∷ 92 ∷ c ∷ d ∷ more) value len
escaped_is c d more value len None is quote found = cc
escaped_is c d more value len (Some v) is quote found =
    let same : pair v 4 ≡ pair value len = some_same _ _ found in
    record {
      bytes = 39 ∷ 92 ∷ c ∷ 39 ∷ [];
      rest = more;
      text_is = ap (λ q. 39 ∷ 92 ∷ c ∷ q ∷ more) quote;
      is = escape c value (is ∙ ap (λ p. Some p.0) same);
      len_is = sym (ap (λ p. p.1) same);
    }

plain_is : (b c : ℕ) (more : Text) (value len : ℕ) → (is_plain b && nat_eq c 39) ≡ true →
    Some (pair b 3) ≡ Some (pair value len)
    → BeginsCharacter (39 ∷ b ∷ c ∷ more) value len
plain_is b c more value len is found =
    let parts = and_parts (is_plain b) (nat_eq c 39) is in
    let same : pair b 3 ≡ pair value len = some_same _ _ found in
    record {
      bytes = 39 ∷ b ∷ 39 ∷ [];
      rest = more;
      text_is = ap (λ q. 39 ∷ b ∷ q ∷ more) (eqb-true c 39 parts.1);
      is = subst (λ v. IsCharacter (39 ∷ b ∷ 39 ∷ []) v) (ap (λ p. p.0) same) (plain b parts.0);
      len_is = sym (ap (λ p. p.1) same);
    }

plain_or_none : (b c : ℕ) (more : Text) (value len : ℕ) (test : Bool) → (is_plain b && nat_eq c 39) ≡ test
    → cond test (Some (pair b 3)) None ≡ Some (pair value len) → BeginsCharacter (39 ∷ b ∷ c ∷ more) value len
plain_or_none b c more value len true is found = plain_is b c more value len is found
plain_or_none b c more value len false is found = cc

four : (b c d : ℕ) (more : Text) (value len : ℕ) (test : Bool) → (nat_eq b 92 && nat_eq d 39) ≡ test
    → cond test (option_map (λ v. pair v 4) (escaped c)) (cond (is_plain b && nat_eq c 39) (Some (pair b 3)) None) ≡ Some (pair value len)
    → BeginsCharacter (39 ∷ b ∷ c ∷ d ∷ more) value len
four b c d more value len true is found =
    let parts = and_parts (nat_eq b 92) (nat_eq d 39) is in
    subst (λ x. BeginsCharacter (39 ∷ x ∷ c ∷ d ∷ more) value len) (sym (eqb-true b 92 parts.0))
    (escaped_is c d more value len (escaped c) refl (eqb-true d 39 parts.1) found)
four b c d more value len false is found = plain_or_none b c (d ∷ more) value len (is_plain b && nat_eq c 39) refl found

skipped : (x : Bool) (p q r : Option (ℕ × ℕ)) → cond (x && false) p q ≡ r → q ≡ r
skipped true p q r same = same
skipped false p q r same = same

no_end : (x : Bool) (b value len : ℕ) → cond (x && false) (Some (pair b 3)) None ≡ Some (pair value len) → ⊥
no_end true b value len found = cc
no_end false b value len found = cc

pub character_of-Some : (text : Text) (value len : ℕ) → character_of (39 ∷ text) ≡ Some (pair value len) →
    BeginsCharacter (39 ∷ text) value len
unfolding character_of
character_of-Some [] value len found = cc
character_of-Some (b ∷ []) value len found = absurd (no_end (is_plain b) b value len (skipped (nat_eq b 92) _ _ _ found))
character_of-Some (b ∷ c ∷ []) value len found = plain_or_none b c [] value len (is_plain b && nat_eq c 39) refl (skipped (nat_eq b 92) _ _ _ found)
character_of-Some (b ∷ c ∷ d ∷ more) value len found = four b c d more value len (nat_eq b 92 && nat_eq d 39) refl found

plain_no_backslash : (byte : ℕ) → is_plain byte ≡ true → nat_eq byte 92 ≡ false
plain_no_backslash byte is =
    let parts = and_parts (is_from 32 126 byte) (not (nat_eq byte 39 || nat_eq byte 92)) is in
    (or_parts (nat_eq byte 39) (nat_eq byte 92) (not-true (nat_eq byte 39 || nat_eq byte 92) parts.1)).1

pub character_of_is : (bytes : Text) (value : ℕ) (rest : Text) → IsCharacter bytes value →
    character_of (bytes ++ rest) ≡ Some (pair value (length bytes))
unfolding character_of
character_of_is _ _ rest (plain byte is) =
    let plain_found = Some (pair byte 3) in
    let no_escape = and_left (nat_eq byte 92) (nat_eq (slice_index rest 0) 39) (plain_no_backslash byte is) in
    cond-false (nat_eq byte 92 && nat_eq (slice_index rest 0) 39) (option_map (λ v. pair v 4) (escaped 39)) (cond (is_plain byte && true) plain_found None) no_escape
    ∙ cond-true (is_plain byte && true) plain_found None (and_from (is_plain byte) true is refl)
character_of_is _ _ rest (escape byte value is) = rw is refl
