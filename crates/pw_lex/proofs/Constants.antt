-- Integer constants as the code reads them are those of the definition, so bytes are one constant at most.
use Rattle.std.proofs.Common.{◌≡◌, ◌≢◌, ℕ, ◌^◌, ◌<◌, ◌≤◌, Bool, true, false, ◌&&◌, ◌||◌, cond, inl, inr, [], ◌∷◌, ◌++◌, length, take, drop, slice_index, Option, Some, None, Result, Ok, Err, option_map, nat_eq, nat_lt, nat_le, refl, sym, ap, ◌∙◌, subst, arith, take-append-drop, take_at, drop_at}
use Rattle.std.specs.List.{prefix_len, list_all}
use Rattle.std.proofs.lemmas.Bool.{and_parts, and_left, and_right, cases_Bool, or_parts, or_cases, eqb-true, eqb-false, ne_eqb, cond-true, cond-false, ltb-false, lt-ltb, leb-true, leb-false}
use Rattle.pw_lex.specs.declared.error.LexError.{LexError}
use Rattle.pw_lex.specs.declared.error.LexError.TheVariants.{BadByte, OpenComment, BadNumber, TooWide, LongName, NoMemory}
use Rattle.pw_lex.specs.declared.number.Radix.{Radix}
use Rattle.pw_lex.specs.declared.number.Radix.TheVariants.{Decimal, Hexadecimal}
use Rattle.pw_lex.specs.declared.number.Constant.{Constant}
use Rattle.pw_lex.specs.declared.token.TokenKind.{TokenKind}
use Rattle.pw_lex.specs.declared.token.TokenKind.TheVariants.{Number}
use Rattle.pw_lex.specs.Bytes.{Text}
use Rattle.pw_lex.specs.Number.{IsMark, IsConstant, IsNumber, is_digit_in, has_leading_zero, suffix_has_u, value, limit, is_unsigned}
use Rattle.pw_lex.specs.Reading.{radix_of, mark_len, word_value, constant_in, constant_of, number_kind, number}
use Rattle.pw_lex.proofs.Lists.{list_all-take_while, length-take_while, prefix_len-append}
use Rattle.pw_lex.proofs.FirstBytes.{is_suffix_byte, at_suffix_byte, suffix_bytes}

-- what the code says of a constant
abbrev pub constant_with : Radix → Text → Bool → Constant
constant_with radix digits has_u = record { radix = radix; value = word_value (value radix digits); has_u = has_u }

-- ---- what is read is a constant

mark_cases : (a b : ℕ) (more : Text) (test : Bool) → (nat_eq a 48 && (nat_eq b 120 || nat_eq b 88)) ≡ test
    → IsMark (cond test Hexadecimal Decimal) (take (mark_len (cond test Hexadecimal Decimal)) (a ∷ b ∷ more))
mark_cases a b more false is = refl
mark_cases a b more true is =
    let parts = and_parts (nat_eq a 48) (nat_eq b 120 || nat_eq b 88) is in
    let first = eqb-true a 48 parts.0 in
    elim (or_cases (nat_eq b 120) (nat_eq b 88) parts.1) [
      | inl small ↦ inl (let second = eqb-true b 120 small in cc)
      | inr large ↦ inr (let second = eqb-true b 88 large in cc)
    ]

no_mark : (a : ℕ) (test : Bool) →
    IsMark (cond (test && false) Hexadecimal Decimal) (take (mark_len (cond (test && false) Hexadecimal Decimal)) (a ∷ []))
no_mark a true = refl
no_mark a false = refl

radix_marks : (bytes : Text) → IsMark (radix_of bytes) (take (mark_len (radix_of bytes)) bytes)
radix_marks [] = refl
radix_marks (a ∷ []) = no_mark a (nat_eq a 48)
radix_marks (a ∷ b ∷ more) = mark_cases a b more (nat_eq a 48 && (nat_eq b 120 || nat_eq b 88)) refl

pub record ConstantIs (bytes : Text) (constant : Constant) : Type 0 where
  pub digits : Text
  pub is : IsConstant bytes constant.radix digits constant.has_u
  pub value_is : constant.value ≡ word_value (value constant.radix digits)

some_digits : (digits : Text) (len : ℕ) → length digits ≡ len → nat_eq len 0 ≡ false → digits ≢ []
some_digits digits len is none empty = eqb-false len 0 none (sym is ∙ ap length empty)

found_constant : (radix : Radix) (mark after : Text) → IsMark radix mark →
    (len : ℕ) (test : Bool) (u : Option Bool) (constant : Constant)
    → list_all (is_digit_in radix) (take len after) ≡ true → length (take len after) ≡ len
    → (nat_eq len 0 || has_leading_zero radix (take len after)) ≡ test → suffix_has_u (drop len after) ≡ u
    → cond test None (option_map (constant_with radix (take len after)) u) ≡ Some constant → ConstantIs (mark ++ after) constant
found_constant radix mark after marked len true u constant all long tested suffixed found = cc
found_constant radix mark after marked len false None constant all long tested suffixed found = cc
found_constant radix mark after marked len false (Some u) constant all long tested suffixed found =
    let parts = or_parts (nat_eq len 0) (has_leading_zero radix (take len after)) tested in
    let same : constant_with radix (take len after) u ≡ constant = some_constant _ _ found in
    subst (λ c. ConstantIs (mark ++ after) c) same (record {
      digits = take len after;
      is = record {
        mark = mark;
        suffix = drop len after;
        spelled = ap (λ t. mark ++ t) (sym (take-append-drop len after));
        marked = marked;
        some = some_digits (take len after) len long parts.0;
        all_digits = all;
        no_octal = parts.1;
        suffixed = suffixed;
      };
      value_is = refl;
    })
  where
    some_constant : (a b : Constant) → Some a ≡ Some b → a ≡ b
    some_constant a b same = cc

constant_in-Some : (radix : Radix) (mark after : Text) → IsMark radix mark → (constant : Constant) →
    constant_in radix after ≡ Some constant → ConstantIs (mark ++ after) constant
unfolding constant_in
constant_in-Some radix mark after marked constant found =
    let len = prefix_len (is_digit_in radix) after in
    found_constant radix mark after marked len (nat_eq len 0 || has_leading_zero radix (take len after)) (suffix_has_u (drop len after)) constant
    (list_all-take_while (is_digit_in radix) after) (length-take_while (is_digit_in radix) after) refl refl found

pub constant_of-Some : (bytes : Text) (constant : Constant) → constant_of bytes ≡ Some constant → ConstantIs bytes constant
constant_of-Some bytes constant found =
    let len = mark_len (radix_of bytes) in
    subst (λ t. ConstantIs t constant) (take-append-drop len bytes)
    (constant_in-Some (radix_of bytes) (take len bytes) (drop len bytes) (radix_marks bytes) constant found)

-- ---- a constant is read

suffix_stops : (radix : Radix) (suffix : Text) → list_all is_suffix_byte suffix ≡ true →
    prefix_len (is_digit_in radix) suffix ≡ 0
suffix_stops radix [] all = refl
suffix_stops Decimal (byte ∷ suffix) all =
    let parts = and_parts (is_suffix_byte byte) (list_all is_suffix_byte suffix) all in
    let stops : is_digit_in Decimal byte ≡ false = at_suffix_byte (λ b. is_digit_in Decimal b ≡ false) byte parts.0 refl refl refl refl in
    rw stops refl
suffix_stops Hexadecimal (byte ∷ suffix) all =
    let parts = and_parts (is_suffix_byte byte) (list_all is_suffix_byte suffix) all in
    let stops : is_digit_in Hexadecimal byte ≡ false = at_suffix_byte (λ b. is_digit_in Hexadecimal b ≡ false) byte parts.0 refl refl refl refl in
    rw stops refl

suffix_no_x : (suffix : Text) → list_all is_suffix_byte suffix ≡ true →
    (nat_eq (slice_index suffix 0) 120 || nat_eq (slice_index suffix 0) 88) ≡ false
suffix_no_x [] all = refl
suffix_no_x (byte ∷ suffix) all =
    let parts = and_parts (is_suffix_byte byte) (list_all is_suffix_byte suffix) all in
    at_suffix_byte (λ b. (nat_eq b 120 || nat_eq b 88) ≡ false) byte parts.0 refl refl refl refl

decimal_radix : (digits suffix : Text) → digits ≢ [] → has_leading_zero Decimal digits ≡ false →
    list_all is_suffix_byte suffix ≡ true → radix_of (digits ++ suffix) ≡ Decimal
decimal_radix [] suffix some no_octal all = absurd (some refl)
decimal_radix (d ∷ []) suffix some no_octal all =
    let x = nat_eq (slice_index suffix 0) 120 || nat_eq (slice_index suffix 0) 88 in
    cond-false (nat_eq d 48 && x) Hexadecimal Decimal (and_right (nat_eq d 48) x (suffix_no_x suffix all))
decimal_radix (d ∷ e ∷ more) suffix some no_octal all =
    let x = nat_eq e 120 || nat_eq e 88 in
    cond-false (nat_eq d 48 && x) Hexadecimal Decimal (and_left (nat_eq d 48) x no_octal)

read_radix : (radix : Radix) (mark digits suffix : Text) → IsMark radix mark → digits ≢ [] →
    has_leading_zero radix digits ≡ false
    → list_all is_suffix_byte suffix ≡ true → radix_of (mark ++ (digits ++ suffix)) ≡ radix
read_radix Decimal mark digits suffix marked some no_octal all = rw marked (decimal_radix digits suffix some no_octal all)
read_radix Hexadecimal mark digits suffix (inl small) some no_octal all = rw small refl
read_radix Hexadecimal mark digits suffix (inr large) some no_octal all = rw large refl

read_after : (radix : Radix) (mark after : Text) → IsMark radix mark → drop (mark_len radix) (mark ++ after) ≡ after
read_after Decimal mark after marked = rw marked refl
read_after Hexadecimal mark after (inl small) = rw small refl
read_after Hexadecimal mark after (inr large) = rw large refl

not_empty : (digits : Text) → digits ≢ [] → nat_eq (length digits) 0 ≡ false
not_empty [] some = absurd (some refl)
not_empty (d ∷ digits) some = ne_eqb (length (d ∷ digits)) 0 (λ e. omega arith)

constant_in_is : (radix : Radix) (digits suffix : Text) (has_u : Bool) → digits ≢ [] →
    list_all (is_digit_in radix) digits ≡ true
    → has_leading_zero radix digits ≡ false → suffix_has_u suffix ≡ Some has_u → constant_in radix (digits ++ suffix) ≡ Some (constant_with radix digits has_u)
unfolding constant_in
constant_in_is radix digits suffix has_u some all no_octal suffixed =
    let len : prefix_len (is_digit_in radix) (digits ++ suffix) ≡ length digits =
    omega (arith, prefix_len-append (is_digit_in radix) digits suffix all, suffix_stops radix suffix (suffix_bytes suffix has_u suffixed)) in
    rw (len, take_at digits suffix (length digits) refl, drop_at digits suffix (length digits) refl, not_empty digits some, no_octal, suffixed) refl

pub constant_of_is : (bytes : Text) (radix : Radix) (digits : Text) (has_u : Bool) → IsConstant bytes radix digits has_u
    → constant_of bytes ≡ Some (constant_with radix digits has_u)
constant_of_is bytes radix digits has_u c =
    let suffix_is = suffix_bytes c.suffix has_u c.suffixed in
    let radix_is = read_radix radix c.mark digits c.suffix c.marked c.some c.no_octal suffix_is in
    let after_is = read_after radix c.mark (digits ++ c.suffix) c.marked in
    rw (c.spelled, radix_is, after_is) (constant_in_is radix digits c.suffix has_u c.some c.all_digits c.no_octal c.suffixed)

-- ---- one constant at most

pub record SameConstant (radix other : Radix) (digits others : Text) (has_u has_other : Bool) : Type 0 where
  pub radix_is : radix ≡ other
  pub has_u_is : has_u ≡ has_other
  pub value_is : word_value (value radix digits) ≡ word_value (value other others)

pub same_constant : (bytes : Text) (radix other : Radix) (digits others : Text) (has_u has_other : Bool)
    → IsConstant bytes radix digits has_u → IsConstant bytes other others has_other → SameConstant radix other digits others has_u has_other
same_constant bytes radix other digits others has_u has_other first second =
    let same : constant_with radix digits has_u ≡ constant_with other others has_other =
    some_constant _ _ (sym (constant_of_is bytes radix digits has_u first) ∙ constant_of_is bytes other others has_other second) in
    record { radix_is = ap (λ c. c.radix) same; has_u_is = ap (λ c. c.has_u) same; value_is = ap (λ c. c.value) same }
  where
    some_constant : (a b : Constant) → Some a ≡ Some b → a ≡ b
    some_constant a b same = cc

pub word_value_some : (number : ℕ) → number < 2 ^ 64 → word_value number ≡ Some number
word_value_some number small = cond-true (nat_lt number (2 ^ 64)) (Some number) None (lt-ltb number (2 ^ 64) small)

pub word_value-Some : (number found : ℕ) → word_value number ≡ Some found → number ≡ found
word_value-Some number found is =
    elim (cases_Bool (nat_lt number (2 ^ 64))) [
      | inl holds ↦ (let e : Some number ≡ Some found = rw holds at is in cc)
      | inr fails ↦ (let e : None ≡ Some found = rw fails at is in cc)
    ]

pub word_value-None : (number : ℕ) → word_value number ≡ None → 2 ^ 64 ≤ number
word_value-None number is =
    elim (cases_Bool (nat_lt number (2 ^ 64))) [
      | inl holds ↦ (let e : Some number ≡ None = rw holds at is in cc)
      | inr fails ↦ ltb-false number (2 ^ 64) fails
    ]

pub limit-lt : (radix : Radix) (has_u : Bool) → limit radix has_u < 2 ^ 64
limit-lt Decimal true = omega arith
limit-lt Decimal false = omega arith
limit-lt Hexadecimal has_u = omega arith

-- ---- what is read of a run

pub record IsNumberToken (bytes : Text) (kind : TokenKind) : Type 0 where
  pub number : ℕ
  pub unsigned : Bool
  pub kind_is : kind ≡ Number number unsigned
  pub is : IsNumber bytes number unsigned

kind_of_constant : (at : ℕ) (bytes : Text) (radix : Radix) (digits : Text) (has_u : Bool) (found : Option ℕ) (kind : TokenKind)
    → IsConstant bytes radix digits has_u → found ≡ word_value (value radix digits) → number_kind at radix has_u found ≡ Ok kind → IsNumberToken bytes kind
kind_of_constant at bytes radix digits has_u None kind is found_is read = cc
kind_of_constant at bytes radix digits has_u (Some n) kind is found_is read =
    elim (cases_Bool (nat_le n (limit radix has_u))) [
      | inl holds ↦ record {
        number = n;
        unsigned = is_unsigned radix has_u n;
        kind_is = (let e = rw holds at read in cc);
        is = record {
          radix = radix;
          digits = digits;
          has_u = has_u;
          constant = is;
          value_is = sym (word_value-Some (value radix digits) n (sym found_is));
          fits = leb-true n (limit radix has_u) holds;
          type_is = refl;
        };
      }
      | inr fails ↦ (let e = rw fails at read in cc)
    ]

pub number-Ok : (at : ℕ) (bytes : Text) (found : Option Constant) (kind : TokenKind) → constant_of bytes ≡ found →
    number at found ≡ Ok kind → IsNumberToken bytes kind
number-Ok at bytes None kind found_is read = cc
number-Ok at bytes (Some constant) kind found_is read =
    let c = constant_of-Some bytes constant found_is in
    kind_of_constant at bytes constant.radix c.digits constant.has_u constant.value kind c.is c.value_is read

-- the fault of a run that begins with a digit and stands at `at`
abbrev pub NumberFault : ℕ → Text → LexError → Type 0
NumberFault at bytes (BadNumber place) = ((radix : Radix) (digits : Text) (has_u : Bool) → ¬ (IsConstant bytes radix digits has_u)) × (place ≡ at)
NumberFault at bytes (TooWide place) =
    ((radix : Radix) × (digits : Text) × (has_u : Bool) × IsConstant bytes radix digits has_u × (limit radix has_u < value radix digits)) × (place ≡ at)
NumberFault at bytes (BadByte place) = ⊥
NumberFault at bytes (OpenComment place) = ⊥
NumberFault at bytes (LongName place) = ⊥
NumberFault at bytes NoMemory = ⊥

err_same : (a b : LexError) → ◌≡◌ {A = Result TokenKind LexError} (Err a) (Err b) → a ≡ b
err_same a b same = cc

fault_of_constant : (at : ℕ) (bytes : Text) (radix : Radix) (digits : Text) (has_u : Bool) (found : Option ℕ) (fault : LexError)
    → IsConstant bytes radix digits has_u → found ≡ word_value (value radix digits) → number_kind at radix has_u found ≡ Err fault → NumberFault at bytes fault
fault_of_constant at bytes radix digits has_u None fault is found_is read =
    let above = word_value-None (value radix digits) (sym found_is) in
    let below = limit-lt radix has_u in
    subst (NumberFault at bytes) (err_same _ _ read) ((radix, digits, has_u, is, omega arith), refl)
fault_of_constant at bytes radix digits has_u (Some n) fault is found_is read =
    elim (cases_Bool (nat_le n (limit radix has_u))) [
      | inl holds ↦ (let e = rw holds at read in cc)
      | inr fails ↦ (
          let above = leb-false n (limit radix has_u) fails in
          let value_is = word_value-Some (value radix digits) n (sym found_is) in
          subst (NumberFault at bytes) (err_same _ _ (rw fails at read)) ((radix, digits, has_u, is, omega arith), refl))
    ]

pub number-Err : (at : ℕ) (bytes : Text) (found : Option Constant) (fault : LexError) → constant_of bytes ≡ found →
    number at found ≡ Err fault → NumberFault at bytes fault
number-Err at bytes None fault found_is read =
    subst (NumberFault at bytes) (err_same _ _ read)
    ((λ radix digits has_u is. (let e = sym found_is ∙ constant_of_is bytes radix digits has_u is in cc)), refl)
number-Err at bytes (Some constant) fault found_is read =
    let c = constant_of-Some bytes constant found_is in
    fault_of_constant at bytes constant.radix c.digits constant.has_u constant.value fault c.is c.value_is read

-- bytes are one number at most
pub one_number_value : (bytes : Text) (n m : ℕ) (u v : Bool) → IsNumber bytes n u → IsNumber bytes m v → (n ≡ m) × (u ≡ v)
one_number_value bytes n m u v first second =
    let same = same_constant bytes first.radix second.radix first.digits second.digits first.has_u second.has_u first.constant second.constant in
    let low = limit-lt first.radix first.has_u in
    let fits = first.fits in
    let value_is = first.value_is in
    let n_is : word_value (value first.radix first.digits) ≡ Some (value first.radix first.digits) = word_value_some (value first.radix first.digits) (omega arith) in
    let m_is = word_value-Some (value second.radix second.digits) (value first.radix first.digits) (sym same.value_is ∙ n_is) in
    let numbers : n ≡ m = first.value_is ∙ sym m_is ∙ sym second.value_is in
    (numbers, first.type_is ∙ (let r = same.radix_is in let h = same.has_u_is in let t = second.type_is in cc))
