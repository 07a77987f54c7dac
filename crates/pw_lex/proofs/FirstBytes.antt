-- The first byte of each kind of token, and the kinds that are runs of letters and digits.
use Rattle.std.proofs.Common.{◌≡◌, ◌≢◌, ℕ, ◌<◌, ◌≤◌, Bool, true, false, ◌&&◌, ◌||◌, cond, ◌⊎◌, inl, inr, [], ◌∷◌, ◌++◌, length, Some, None, nat_eq, nat_le, refl, sym, ◌∙◌, subst, arith}
use Rattle.std.specs.List.{list_all}
use Rattle.std.proofs.lemmas.Bool.{and_parts, and_from, or_cases, eqb-true, leb-true, ne_eqb, le-leb, lt-leb}
use Rattle.std.proofs.lemmas.List.Folds.{list_all-append}
use Rattle.pw_base.specs.Name.{is_from}
use Rattle.pw_lex.specs.declared.bytes.Class.{Class}
use Rattle.pw_lex.specs.declared.bytes.Class.TheVariants.{White, Letter, Digit, Quote, Other}
use Rattle.pw_lex.specs.declared.number.Radix.{Radix}
use Rattle.pw_lex.specs.declared.number.Radix.TheVariants.{Decimal, Hexadecimal}
use Rattle.pw_lex.specs.declared.token.TokenKind.{TokenKind}
use Rattle.pw_lex.specs.declared.token.TokenKind.TheVariants.{Word, Number, Char, Keyword, Punct}
use Rattle.pw_lex.specs.Bytes.{Text, class_of, BeginsWith, runs_on, is_run_byte}
use Rattle.pw_lex.specs.Spellings.{keywords, punctuators, IsListed}
use Rattle.pw_lex.specs.Number.{IsMark, IsConstant, is_digit_in, is_u, is_l, suffix_has_u}
use Rattle.pw_lex.specs.Character.{IsCharacter, plain, escape}
use Rattle.pw_lex.specs.Token.{IsToken}
use Rattle.pw_lex.proofs.Entries.{listed_passes}

-- ---- classes by the numbers of the bytes

class_digit : (byte : ℕ) → 48 ≤ byte → byte ≤ 57 → class_of byte ≡ Digit
unfolding class_of
class_digit byte low high =
    rw (
      ne_eqb byte 9 (λ e. omega arith),
      ne_eqb byte 10 (λ e. omega arith),
      ne_eqb byte 13 (λ e. omega arith),
      ne_eqb byte 32 (λ e. omega arith),
      lt-leb 65 byte (omega arith),
      lt-leb 97 byte (omega arith),
      ne_eqb byte 95 (λ e. omega arith),
      le-leb 48 byte low,
      le-leb byte 57 high,
    ) refl

class_upper : (byte : ℕ) → 65 ≤ byte → byte ≤ 90 → class_of byte ≡ Letter
unfolding class_of
class_upper byte low high =
    rw (
      ne_eqb byte 9 (λ e. omega arith),
      ne_eqb byte 10 (λ e. omega arith),
      ne_eqb byte 13 (λ e. omega arith),
      ne_eqb byte 32 (λ e. omega arith),
      le-leb 65 byte low,
      le-leb byte 90 high,
    ) refl

class_lower : (byte : ℕ) → 97 ≤ byte → byte ≤ 122 → class_of byte ≡ Letter
unfolding class_of
class_lower byte low high =
    rw (
      ne_eqb byte 9 (λ e. omega arith),
      ne_eqb byte 10 (λ e. omega arith),
      ne_eqb byte 13 (λ e. omega arith),
      ne_eqb byte 32 (λ e. omega arith),
      le-leb 65 byte (omega arith),
      lt-leb byte 90 (omega arith),
      le-leb 97 byte low,
      le-leb byte 122 high,
    ) refl

pub class_slash : class_of 47 ≡ Other
unfolding class_of
class_slash = refl

pub class_quote : class_of 39 ≡ Quote
unfolding class_of
class_quote = refl

class_zero : class_of 48 ≡ Digit
unfolding class_of
class_zero = refl

-- ---- tables

opens_as : Class → Class → Bool
opens_as Letter Letter = true
opens_as Other Other = true
opens_as _ _ = false

opens_with : Class → Text → Bool
opens_with class [] = false
opens_with class (byte ∷ _) = opens_as (class_of byte) class

letter_from : (class : Class) → opens_as class Letter ≡ true → class ≡ Letter
unfolding opens_as
letter_from White h = cc
letter_from Letter h = refl
letter_from Digit h = cc
letter_from Quote h = cc
letter_from Other h = cc

other_from : (class : Class) → opens_as class Other ≡ true → class ≡ Other
unfolding opens_as
other_from White h = cc
other_from Letter h = cc
other_from Digit h = cc
other_from Quote h = cc
other_from Other h = refl

begins_letter : (bytes : Text) → opens_with Letter bytes ≡ true → BeginsWith Letter bytes
unfolding opens_with
begins_letter [] h = cc
begins_letter (byte ∷ bytes) h = letter_from (class_of byte) h

begins_other : (bytes : Text) → opens_with Other bytes ≡ true → BeginsWith Other bytes
unfolding opens_with
begins_other [] h = cc
begins_other (byte ∷ bytes) h = other_from (class_of byte) h

keywords_open : list_all (opens_with Letter) keywords ≡ true
unfolding keywords opens_with opens_as class_of
keywords_open = refl

keywords_run : list_all (λ entry. list_all is_run_byte entry) keywords ≡ true
unfolding keywords class_of
keywords_run = refl

punctuators_open : list_all (opens_with Other) punctuators ≡ true
unfolding punctuators opens_with opens_as class_of
punctuators_open = refl

keyword_begins : (bytes : Text) (number : ℕ) → IsListed keywords bytes number → BeginsWith Letter bytes
keyword_begins bytes number listed =
    begins_letter bytes (listed_passes (opens_with Letter) keywords bytes number keywords_open listed)

keyword_runs : (bytes : Text) (number : ℕ) → IsListed keywords bytes number → list_all is_run_byte bytes ≡ true
keyword_runs bytes number listed = listed_passes (λ entry. list_all is_run_byte entry) keywords bytes number keywords_run listed

punctuator_begins : (bytes : Text) (number : ℕ) → IsListed punctuators bytes number → BeginsWith Other bytes
punctuator_begins bytes number listed =
    begins_other bytes (listed_passes (opens_with Other) punctuators bytes number punctuators_open listed)

-- ---- numbers

digit_runs : (radix : Radix) (byte : ℕ) → is_digit_in radix byte ≡ true → is_run_byte byte ≡ true
digit_runs Decimal byte digit =
    let parts = and_parts (nat_le 48 byte) (nat_le byte 57) digit in
    rw (class_digit byte (leb-true 48 byte parts.0) (leb-true byte 57 parts.1)) refl
digit_runs Hexadecimal byte digit =
    elim (or_cases (is_from 48 57 byte || is_from 65 70 byte) (is_from 97 102 byte) digit) [
      | inl low ↦ elim (or_cases (is_from 48 57 byte) (is_from 65 70 byte) low) [
        | inl d ↦ (let parts = and_parts (nat_le 48 byte) (nat_le byte 57) d in rw (class_digit byte (leb-true 48 byte parts.0) (leb-true byte 57 parts.1)) refl)
        | inr u ↦ (
            let parts = and_parts (nat_le 65 byte) (nat_le byte 70) u in
            let high = leb-true byte 70 parts.1 in
            rw (class_upper byte (leb-true 65 byte parts.0) (omega arith)) refl)
      ]
      | inr l ↦ (
          let parts = and_parts (nat_le 97 byte) (nat_le byte 102) l in
          let high = leb-true byte 102 parts.1 in
          rw (class_lower byte (leb-true 97 byte parts.0) (omega arith)) refl)
    ]

digits_run : (radix : Radix) (digits : Text) → list_all (is_digit_in radix) digits ≡ true → list_all is_run_byte digits ≡ true
digits_run radix [] passes = refl
digits_run radix (byte ∷ digits) passes =
    let parts = and_parts (is_digit_in radix byte) (list_all (is_digit_in radix) digits) passes in
    and_from (is_run_byte byte) (list_all is_run_byte digits) (digit_runs radix byte parts.0) (digits_run radix digits parts.1)

-- u, U, l or L
pub is_suffix_byte : ℕ → Bool
is_suffix_byte byte = is_u byte || is_l byte

pub suffix_byte_cases : (byte : ℕ) → is_suffix_byte byte ≡ true → ((byte ≡ 117) ⊎ (byte ≡ 85)) ⊎ ((byte ≡ 108) ⊎ (byte ≡ 76))
unfolding is_suffix_byte
suffix_byte_cases byte h =
    elim (or_cases (is_u byte) (is_l byte) h) [
      | inl u ↦ inl (elim (or_cases (nat_eq byte 117) (nat_eq byte 85) u) [
        | inl e ↦ inl (eqb-true byte 117 e)
        | inr e ↦ inr (eqb-true byte 85 e)
      ])
      | inr l ↦ inr (elim (or_cases (nat_eq byte 108) (nat_eq byte 76) l) [
        | inl e ↦ inl (eqb-true byte 108 e)
        | inr e ↦ inr (eqb-true byte 76 e)
      ])
    ]

-- what is computed at u, U, l and L holds of each of them
pub at_suffix_byte : (P : ℕ → Type 0) (byte : ℕ) → is_suffix_byte byte ≡ true → P 117 → P 85 → P 108 → P 76 → P byte
at_suffix_byte P byte h u v l m =
    elim (suffix_byte_cases byte h) [
      | inl first ↦ elim first [ inl e ↦ subst P (sym e) u | inr e ↦ subst P (sym e) v ]
      | inr second ↦ elim second [ inl e ↦ subst P (sym e) l | inr e ↦ subst P (sym e) m ]
    ]

-- a suffix has such bytes alone
pub suffix_bytes : (suffix : Text) (has_u : Bool) → suffix_has_u suffix ≡ Some has_u → list_all is_suffix_byte suffix ≡ true
unfolding is_suffix_byte
suffix_bytes [] has_u found = refl
suffix_bytes (a ∷ []) has_u found = suffix_one (is_u a) (is_l a) has_u found
  where
    suffix_one : (u l has_u : Bool) → cond u (Some true) (cond l (Some false) None) ≡ Some has_u → ((u || l) && true) ≡ true
    suffix_one true l has_u found = refl
    suffix_one false true has_u found = refl
    suffix_one false false has_u found = cc
suffix_bytes (a ∷ b ∷ []) has_u found = suffix_two (is_u a) (is_l a) (is_u b) (is_l b) has_u found
  where
    suffix_two : (u l v m has_u : Bool) → cond ((u && m) || (l && v)) (Some true) None ≡ Some has_u →
        ((u || l) && ((v || m) && true)) ≡ true
    suffix_two true l true m has_u found = refl
    suffix_two true l false true has_u found = refl
    suffix_two true true false false has_u found = cc
    suffix_two true false false false has_u found = cc
    suffix_two false true true m has_u found = refl
    suffix_two false true false m has_u found = cc
    suffix_two false false v m has_u found = cc
suffix_bytes (a ∷ b ∷ c ∷ more) has_u found = cc

suffix_runs : (suffix : Text) → list_all is_suffix_byte suffix ≡ true → list_all is_run_byte suffix ≡ true
suffix_runs [] passes = refl
suffix_runs (byte ∷ suffix) passes =
    let parts = and_parts (is_suffix_byte byte) (list_all is_suffix_byte suffix) passes in
    let here : is_run_byte byte ≡ true = at_suffix_byte (λ b. is_run_byte b ≡ true) byte parts.0
    (rw (class_lower 117 (omega arith) (omega arith)) refl) (rw (class_upper 85 (omega arith) (omega arith)) refl)
    (rw (class_lower 108 (omega arith) (omega arith)) refl) (rw (class_upper 76 (omega arith) (omega arith)) refl) in
    and_from (is_run_byte byte) (list_all is_run_byte suffix) here (suffix_runs suffix parts.1)

mark_runs : (radix : Radix) (mark : Text) → IsMark radix mark → list_all is_run_byte mark ≡ true
unfolding class_of
mark_runs Decimal mark marked = rw marked refl
mark_runs Hexadecimal mark (inl small) = rw small refl
mark_runs Hexadecimal mark (inr large) = rw large refl

all_append : (v w : Text) → list_all is_run_byte v ≡ true → list_all is_run_byte w ≡ true → list_all is_run_byte (v ++ w) ≡ true
all_append v w first second = list_all-append is_run_byte v w ∙ and_from (list_all is_run_byte v) (list_all is_run_byte w) first second

pub constant_runs : (bytes : Text) (radix : Radix) (digits : Text) (has_u : Bool) → IsConstant bytes radix digits has_u →
    list_all is_run_byte bytes ≡ true
constant_runs bytes radix digits has_u c =
    rw c.spelled (all_append c.mark (digits ++ c.suffix) (mark_runs radix c.mark c.marked)
    (all_append digits c.suffix (digits_run radix digits c.all_digits) (suffix_runs c.suffix (suffix_bytes c.suffix has_u c.suffixed))))

digits_begin : (digits more : Text) → digits ≢ [] → list_all (is_digit_in Decimal) digits ≡ true →
    BeginsWith Digit (digits ++ more)
digits_begin [] more some passes = absurd (some refl)
digits_begin (byte ∷ digits) more some passes =
    let parts = and_parts (is_digit_in Decimal byte) (list_all (is_digit_in Decimal) digits) passes in
    let both = and_parts (nat_le 48 byte) (nat_le byte 57) parts.0 in
    class_digit byte (leb-true 48 byte both.0) (leb-true byte 57 both.1)

marked_begins : (radix : Radix) (mark digits suffix : Text) → IsMark radix mark → digits ≢ [] →
    list_all (is_digit_in radix) digits ≡ true → BeginsWith Digit (mark ++ (digits ++ suffix))
marked_begins Decimal mark digits suffix marked some passes = rw marked (digits_begin digits suffix some passes)
marked_begins Hexadecimal mark digits suffix (inl small) some passes = rw small class_zero
marked_begins Hexadecimal mark digits suffix (inr large) some passes = rw large class_zero

pub constant_begins : (bytes : Text) (radix : Radix) (digits : Text) (has_u : Bool) → IsConstant bytes radix digits has_u →
    BeginsWith Digit bytes
constant_begins bytes radix digits has_u c = rw c.spelled (marked_begins radix c.mark digits c.suffix c.marked c.some c.all_digits)

character_begins : (bytes : Text) (value : ℕ) → IsCharacter bytes value → BeginsWith Quote bytes
character_begins _ _ (plain byte is) = class_quote
character_begins _ _ (escape byte value is) = class_quote

-- ---- the class of a kind

abbrev pub kind_class : TokenKind → Class
kind_class (Word name) = Letter
kind_class (Number value unsigned) = Digit
kind_class (Char value) = Quote
kind_class (Keyword number) = Letter
kind_class (Punct number) = Other

pub token_begins : (bytes : Text) (kind : TokenKind) → IsToken bytes kind → BeginsWith (kind_class kind) bytes
token_begins bytes (Word name) is = is.0.begins
token_begins bytes (Number value unsigned) is = constant_begins bytes is.radix is.digits is.has_u is.constant
token_begins bytes (Char value) is = character_begins bytes value is
token_begins bytes (Keyword number) is = keyword_begins bytes number is
token_begins bytes (Punct number) is = punctuator_begins bytes number is

pub token_runs : (bytes : Text) (kind : TokenKind) → IsToken bytes kind → runs_on (kind_class kind) ≡ true →
    list_all is_run_byte bytes ≡ true
token_runs bytes (Word name) is on = is.0.goes_on
token_runs bytes (Number value unsigned) is on = constant_runs bytes is.radix is.digits is.has_u is.constant
token_runs bytes (Char value) is on = cc
token_runs bytes (Keyword number) is on = keyword_runs bytes number is
token_runs bytes (Punct number) is on = cc

begins_some : (class : Class) (text : Text) → BeginsWith class text → 0 < length text
begins_some class [] begins = absurd begins
begins_some class (byte ∷ text) begins = omega arith

-- a token has a byte
pub token_some : (bytes : Text) (kind : TokenKind) → IsToken bytes kind → 0 < length bytes
token_some bytes kind is = begins_some (kind_class kind) bytes (token_begins bytes kind is)
