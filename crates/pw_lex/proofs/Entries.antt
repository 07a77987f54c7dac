-- Lists of spellings: what a look-up says, and which punctuator a text begins with.
use Rattle.std.proofs.Common.{◌≡◌, ℕ, zero, suc, ◌+◌, ◌-◌, ◌<◌, ◌≤◌, Bool, true, false, not, ◌&&◌, inl, inr, List, [], ◌∷◌, ◌++◌, length, take, drop, Option, Some, None, nat_le, bytes_eq, refl, sym, ap, ◌∙◌, subst, arith, take-append-drop, take_at, length-append, length-take-le}
use Rattle.std.specs.List.{list_all}
use Rattle.std.proofs.lemmas.Bool.{and_parts, cases_Bool, not-true, both_ways, leb-true, leb-false}
use Rattle.std.proofs.lemmas.Slice.Eq.{bytes_eq-Decides}
use Rattle.pw_lex.specs.Bytes.{Text}
use Rattle.pw_lex.specs.Spellings.{punctuators, IsListed}
use Rattle.pw_lex.specs.Reading.{number_from, punctuator_of, with_length, longest_punctuator}

-- what all pass, each entry passes
pub listed_passes : (p : Text → Bool) (list : List Text) (text : Text) (number : ℕ) → list_all p list ≡ true →
    IsListed list text number → p text ≡ true
listed_passes p [] text number passes listed = cc
listed_passes p (entry ∷ list) text zero passes listed =
    let parts = and_parts (p entry) (list_all p list) passes in
    let same : entry ≡ text = first_text entry text listed in
    ap p (sym same) ∙ parts.0
  where
    first_text : (a b : Text) → Some a ≡ Some b → a ≡ b
    first_text a b same = cc
listed_passes p (entry ∷ list) text (suc number) passes listed = listed_passes p list text number (and_parts (p entry) (list_all p list) passes).1 listed

some_text : (a b : Text) → Some a ≡ Some b → a ≡ b
some_text a b same = cc

some_number : (a b : ℕ) → Some a ≡ Some b → a ≡ b
some_number a b same = cc

some_pair : (a b : ℕ × ℕ) → Some a ≡ Some b → a ≡ b
some_pair a b same = cc

alike : (v s : Text) → bytes_eq v s ≡ false → v ≡ s → ⊥
alike v s apart same = both_ways (bytes_eq v s) apart ((bytes_eq-Decides v s).1 same)

-- a number found is that of the text
pub record IsFound (first : ℕ) (list : List Text) (text : Text) (number : ℕ) : Type 0 where
  pub position : ℕ
  pub number_is : number ≡ first + position
  pub listed : IsListed list text position

found_from : (first : ℕ) (list : List Text) (text : Text) (number : ℕ) → number_from first list text ≡ Some number →
    IsFound first list text number
found_from first [] text number found = cc
found_from first (entry ∷ list) text number found =
    elim (cases_Bool (bytes_eq entry text)) [
      | inl holds ↦ record {
        position = 0;
        number_is = (let same = some_number _ _ (rw holds at found) in omega arith);
        listed = ap Some ((bytes_eq-Decides entry text).0 holds);
      }
      | inr fails ↦ (
          let later = found_from (first + 1) list text number (rw fails at found) in
          record { position = suc later.position; number_is = (let e = later.number_is in omega arith); listed = later.listed })
    ]

pub number_from-Some : (list : List Text) (text : Text) (number : ℕ) → number_from 0 list text ≡ Some number →
    IsListed list text number
number_from-Some list text number found =
    let f = found_from 0 list text number found in
    let same : f.position ≡ number = (let e = f.number_is in omega arith) in
    subst (IsListed list text) same f.listed

-- where none is found, the list does not have the text
pub number_from-None : (first : ℕ) (list : List Text) (text : Text) → number_from first list text ≡ None → (number : ℕ) →
    IsListed list text number → ⊥
number_from-None first [] text missing number listed = cc
number_from-None first (entry ∷ list) text missing zero listed =
    elim (cases_Bool (bytes_eq entry text)) [
      | inl holds ↦ (let e = rw holds at missing in cc)
      | inr fails ↦ alike entry text fails (some_text _ _ listed)
    ]
number_from-None first (entry ∷ list) text missing (suc number) listed =
    elim (cases_Bool (bytes_eq entry text)) [
      | inl holds ↦ (let e = rw holds at missing in cc)
      | inr fails ↦ number_from-None (first + 1) list text (rw fails at missing) number listed
    ]

-- ---- a text stands in a list once

-- no text stands twice
abbrev pub all_differ : List Text → Bool
all_differ [] = true
all_differ (entry ∷ list) = list_all (λ other. not (bytes_eq entry other)) list && all_differ list

apart_from : (list : List Text) (entry text : Text) (number : ℕ) → list_all (λ other. not (bytes_eq entry other)) list ≡ true →
    entry ≡ text → IsListed list text number → ⊥
apart_from list entry text number apart same later =
    alike entry text (not-true (bytes_eq entry text) (listed_passes (λ other. not (bytes_eq entry other)) list text number apart later)) same

pub one_number : (list : List Text) (text : Text) (j k : ℕ) → all_differ list ≡ true → IsListed list text j →
    IsListed list text k → j ≡ k
one_number [] text j k apart first second = cc
one_number (entry ∷ list) text zero zero apart first second = refl
one_number (entry ∷ list) text zero (suc k) apart first second =
    absurd (apart_from list entry text k (and_parts (list_all (λ other. not (bytes_eq entry other)) list) (all_differ list) apart).0 (some_text _ _ first) second)
one_number (entry ∷ list) text (suc j) zero apart first second =
    absurd (apart_from list entry text j (and_parts (list_all (λ other. not (bytes_eq entry other)) list) (all_differ list) apart).0 (some_text _ _ second) first)
one_number (entry ∷ list) text (suc j) (suc k) apart first second =
    ap suc (one_number list text j k (and_parts (list_all (λ other. not (bytes_eq entry other)) list) (all_differ list) apart).1 first second)

-- ---- punctuators at the beginning of a text

punctuator_lengths : list_all (λ entry. nat_le 1 (length entry) && nat_le (length entry) 3) punctuators ≡ true
unfolding punctuators
punctuator_lengths = refl

few_bytes : (text : Text) (number : ℕ) → IsListed punctuators text number → (1 ≤ length text) × (length text ≤ 3)
few_bytes text number listed =
    let passes = listed_passes (λ entry. nat_le 1 (length entry) && nat_le (length entry) 3) punctuators text number punctuator_lengths listed in
    let parts = and_parts (nat_le 1 (length text)) (nat_le (length text) 3) passes in
    (leb-true 1 (length text) parts.0, leb-true (length text) 3 parts.1)

-- the text begins with a punctuator of this number and length, and with no longer one
pub record BeginsPunctuator (text : Text) (number len : ℕ) : Type 0 where
  pub spelling : Text
  pub rest : Text
  pub text_is : text ≡ spelling ++ rest
  pub listed : IsListed punctuators spelling number
  pub len_is : len ≡ length spelling
  pub longest : (v t : Text) (j : ℕ) → text ≡ v ++ t → IsListed punctuators v j → length v ≤ length spelling

punctuator_of-Some : (len : ℕ) (text : Text) (number : ℕ) → punctuator_of len text ≡ Some number →
    (len ≤ length text) × IsListed punctuators (take len text) number
punctuator_of-Some len text number found =
    elim (cases_Bool (nat_le len (length text))) [
      | inl holds ↦ (leb-true len (length text) holds, number_from-Some punctuators (take len text) number (rw holds at found))
      | inr fails ↦ (let e = rw fails at found in cc)
    ]

-- where no punctuator of a length is found, the text begins with none
punctuator_of-None : (len : ℕ) (text : Text) → punctuator_of len text ≡ None → (v t : Text) (j : ℕ) → text ≡ v ++ t →
    IsListed punctuators v j → length v ≡ len → ⊥
punctuator_of-None len text missing v t j is listed long =
    let whole = ap length is ∙ length-append v t in
    let taken : take len text ≡ v = ap (take len) is ∙ take_at v t len long in
    elim (cases_Bool (nat_le len (length text))) [
      | inl holds ↦ number_from-None 0 punctuators (take len text) (rw holds at missing) j (subst (λ w. IsListed punctuators w j) (sym taken) listed)
      | inr fails ↦ (let short = leb-false len (length text) fails in absurd (omega arith))
    ]

begins_with : (text : Text) (len number : ℕ) → punctuator_of len text ≡ Some number
    → ((v t : Text) (j : ℕ) → text ≡ v ++ t → IsListed punctuators v j → length v ≤ len) → BeginsPunctuator text number len
begins_with text len number found bound =
    let here = punctuator_of-Some len text number found in
    let long = length-take-le len text here.0 in
    record {
      spelling = take len text;
      rest = drop len text;
      text_is = sym (take-append-drop len text);
      listed = here.1;
      len_is = sym long;
      longest = λ v t j is listed. (let e = bound v t j is listed in omega arith);
    }

-- no punctuator of the length, so each is shorter
below : (text : Text) (len : ℕ) → punctuator_of (suc len) text ≡ None
    → ((v t : Text) (j : ℕ) → text ≡ v ++ t → IsListed punctuators v j → length v ≤ suc len)
    → (v t : Text) (j : ℕ) → text ≡ v ++ t → IsListed punctuators v j → length v ≤ len
below text len missing bound v t j is listed =
    elim (cases_Bool (nat_le (length v) len)) [
      | inl holds ↦ leb-true (length v) len holds
      | inr fails ↦ (
          let above = leb-false (length v) len fails in
          let most = bound v t j is listed in
          absurd (punctuator_of-None (suc len) text missing v t j is listed (omega arith)))
    ]

at_most : (text v t : Text) (j : ℕ) → text ≡ v ++ t → IsListed punctuators v j → length v ≤ 3
at_most text v t j is listed = (few_bytes v j listed).1

by_lengths : (text : Text) (a b c : Option ℕ) (number len : ℕ) → punctuator_of 3 text ≡ a → punctuator_of 2 text ≡ b →
    punctuator_of 1 text ≡ c
    → with_length a 3 (with_length b 2 (with_length c 1 None)) ≡ Some (number, len) → BeginsPunctuator text number len
by_lengths text (Some n) b c number len three two one found =
    let same : ◌≡◌ {A = ℕ × ℕ} (n, 3) (number, len) = some_pair _ _ found in
    subst (λ p. BeginsPunctuator text p.0 p.1) same (begins_with text 3 n three (at_most text))
by_lengths text None (Some n) c number len three two one found =
    let same : ◌≡◌ {A = ℕ × ℕ} (n, 2) (number, len) = some_pair _ _ found in
    subst (λ p. BeginsPunctuator text p.0 p.1) same (begins_with text 2 n two (below text 2 three (at_most text)))
by_lengths text None None (Some n) number len three two one found =
    let same : ◌≡◌ {A = ℕ × ℕ} (n, 1) (number, len) = some_pair _ _ found in
    subst (λ p. BeginsPunctuator text p.0 p.1) same (begins_with text 1 n one (below text 1 two (below text 2 three (at_most text))))
by_lengths text None None None number len three two one found = cc

pub longest_punctuator-Some : (text : Text) (number len : ℕ) → longest_punctuator text ≡ Some (number, len) →
    BeginsPunctuator text number len
unfolding longest_punctuator
longest_punctuator-Some text number len found = by_lengths text (punctuator_of 3 text) (punctuator_of 2 text) (punctuator_of 1 text) number len refl refl refl found

none_by_lengths : (text : Text) (a b c : Option ℕ) → punctuator_of 3 text ≡ a → punctuator_of 2 text ≡ b →
    punctuator_of 1 text ≡ c
    → with_length a 3 (with_length b 2 (with_length c 1 None)) ≡ None → (v t : Text) (j : ℕ) → text ≡ v ++ t → IsListed punctuators v j → ⊥
none_by_lengths text (Some n) b c three two one missing v t j is listed = cc
none_by_lengths text None (Some n) c three two one missing v t j is listed = cc
none_by_lengths text None None (Some n) three two one missing v t j is listed = cc
none_by_lengths text None None None three two one missing v t j is listed =
    let some = (few_bytes v j listed).0 in
    let none = below text 0 one (below text 1 two (below text 2 three (at_most text))) v t j is listed in
    absurd (omega arith)

-- where none is found, the text begins with no punctuator
pub longest_punctuator-None : (text : Text) → longest_punctuator text ≡ None → (v t : Text) (j : ℕ) → text ≡ v ++ t →
    IsListed punctuators v j → ⊥
unfolding longest_punctuator
longest_punctuator-None text missing v t j is listed =
    none_by_lengths text (punctuator_of 3 text) (punctuator_of 2 text) (punctuator_of 1 text) refl refl refl missing v t j is listed
