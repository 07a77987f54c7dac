-- What the code reads at the beginning of a text stands there, as the definitions say.
use Rattle.std.proofs.Common.{◌≡◌, ℕ, ◌+◌, ◌<◌, ◌≤◌, Bool, true, false, ◌&&◌, cond, inl, inr, [], ◌∷◌, ◌++◌, length, take, drop, slice_index, Option, Some, None, Result, Ok, Err, nat_eq, nat_lt, refl, sym, ap, ◌∙◌, subst, arith, one-add, append_assoc, length-append, take-append-drop}
use Rattle.std.specs.List.{prefix_len}
use Rattle.std.proofs.lemmas.Bool.{and_parts, cases_Bool, eqb-true, both_ways, ltb-true, ltb-false}
use Rattle.pw_lex.specs.declared.bytes.Class.{Class}
use Rattle.pw_lex.specs.declared.bytes.Class.TheVariants.{White, Letter, Digit, Quote, Other}
use Rattle.pw_lex.specs.declared.number.Radix.{Radix}
use Rattle.pw_lex.specs.declared.error.LexError.{LexError}
use Rattle.pw_lex.specs.declared.error.LexError.TheVariants.{BadByte, OpenComment, BadNumber, TooWide, LongName, NoMemory}
use Rattle.pw_lex.specs.declared.prefix.Prefix.{Prefix}
use Rattle.pw_lex.specs.declared.prefix.Prefix.TheVariants.{Gap, Token}
use Rattle.pw_lex.specs.declared.token.TokenKind.{TokenKind}
use Rattle.pw_lex.specs.declared.token.TokenKind.TheVariants.{Word, Number, Char, Keyword, Punct}
use Rattle.pw_lex.specs.Bytes.{Text, class_of, BeginsWith, runs_on, is_run_byte, run}
use Rattle.pw_base.specs.Limits.{name_bytes}
use Rattle.pw_lex.specs.Spellings.{keywords}
use Rattle.pw_lex.specs.Number.{IsConstant, value, limit}
use Rattle.pw_lex.specs.Character.{IsCharacter}
use Rattle.pw_lex.specs.Token.{IsToken}
use Rattle.pw_lex.specs.Fault as piece
use Rattle.pw_lex.specs.Fault.{Piece, bytes_of, not_newline, OpensComment, IsOpenComment, BeginsToken, StandsBefore, IsBadByte}
use Rattle.pw_lex.specs.Text.{tokens_of_piece, line_after, FaultStands, place_of}
use Rattle.pw_lex.specs.Reading as reading
use Rattle.pw_lex.specs.Reading.{number_from, longest_punctuator, close_from, character_of, constant_of, word_in, run_token, prefix_in, prefix, other, len_of, tokens_of_prefix}
use Rattle.pw_lex.proofs.Lists.{length-le-prefix_len, list_all-take_while, length-take_while}
use Rattle.pw_lex.proofs.Entries.{number_from-Some, number_from-None, BeginsPunctuator, longest_punctuator-Some, longest_punctuator-None}
use Rattle.pw_lex.proofs.FirstBytes.{class_slash, kind_class, token_begins, token_runs, token_some}
use Rattle.pw_lex.proofs.Comments.{EndsLine-after, ClosesAt, close_from-Some, close_from-None}
use Rattle.pw_lex.proofs.Characters.{pair, BeginsCharacter, character_of-Some, character_of_is}
use Rattle.pw_lex.proofs.Constants.{IsNumberToken, number-Ok, NumberFault, number-Err, same_constant, word_value_some, word_value-Some, limit-lt}

-- ---- classes

pub one_class : (text : Text) (first second : Class) → BeginsWith first text → BeginsWith second text → first ≡ second
one_class [] first second begins too = absurd begins
one_class (byte ∷ _) first second begins too = sym begins ∙ too

pub begins_prefix : (class : Class) (prefix rest : Text) → BeginsWith class prefix → BeginsWith class (prefix ++ rest)
begins_prefix class [] rest begins = absurd begins
begins_prefix class (byte ∷ prefix) rest begins = begins

-- a token at the beginning of a text has the class of the text's first byte
pub prefix_kind : (text bytes rest : Text) (kind : TokenKind) (class : Class) → text ≡ bytes ++ rest → IsToken bytes kind →
    BeginsWith class text → kind_class kind ≡ class
prefix_kind text bytes rest kind class is token begins =
    one_class text (kind_class kind) class
    (subst (BeginsWith (kind_class kind)) (sym is) (begins_prefix (kind_class kind) bytes rest (token_begins bytes kind token))) begins

pub opens_other : (text : Text) → OpensComment text → BeginsWith Other text
opens_other text (rest, inl line) = subst (BeginsWith Other) (sym line) class_slash
opens_other text (rest, inr block) = subst (BeginsWith Other) (sym block) class_slash

open_comment_other : (text : Text) → IsOpenComment text → BeginsWith Other text
open_comment_other text (body, is, open_) = subst (BeginsWith Other) (sym is) class_slash

-- ---- runs

pub run_rest : (text : Text) → text ≡ run text ++ drop (prefix_len is_run_byte text) text
run_rest text = sym (take-append-drop (prefix_len is_run_byte text) text)

run_longest : (text bytes rest : Text) (kind : TokenKind) (class : Class) → BeginsWith class text → runs_on class ≡ true
    → text ≡ bytes ++ rest → IsToken bytes kind → length bytes ≤ length (run text)
run_longest text bytes rest kind class begins on is token =
    let class_is = prefix_kind text bytes rest kind class is token begins in
    let runs = token_runs bytes kind token (ap runs_on class_is ∙ on) in
    let long = length-le-prefix_len is_run_byte bytes rest runs in
    let whole = length-take_while is_run_byte text in
    let same = ap (prefix_len is_run_byte) is in
    omega arith

run_begins : (text : Text) (class : Class) → BeginsWith class text → runs_on class ≡ true → BeginsWith class (run text)
run_begins [] class begins on = absurd begins
run_begins (byte ∷ text) class begins on =
    let here : is_run_byte byte ≡ true = ap runs_on begins ∙ on in
    rw (here, one-add) begins

-- ---- names and keywords

word_token : (text : Text) (found : Option ℕ) → BeginsWith Letter text → length (run text) ≤ name_bytes →
    number_from 0 keywords (run text) ≡ found → IsToken (run text) (reading.word (run text) found)
word_token text None begins short found_is = (
  record {
    begins = run_begins text Letter begins refl;
    goes_on = list_all-take_while is_run_byte text;
    within_limit = short;
    no_keyword = number_from-None 0 keywords (run text) found_is;
  },
  refl,
)
word_token text (Some number) begins short found_is = number_from-Some keywords (run text) number found_is

ok_kind : (a b : TokenKind) → ◌≡◌ {A = Result TokenKind LexError} (Ok a) (Ok b) → a ≡ b
ok_kind a b same = cc

ok_prefix : (a b : Prefix) → ◌≡◌ {A = Result Prefix LexError} (Ok a) (Ok b) → a ≡ b
ok_prefix a b same = cc

err_kind : (a b : LexError) → ◌≡◌ {A = Result TokenKind LexError} (Err a) (Err b) → a ≡ b
err_kind a b same = cc

err_prefix : (a b : LexError) → ◌≡◌ {A = Result Prefix LexError} (Err a) (Err b) → a ≡ b
err_prefix a b same = cc

letter_kind : (at : ℕ) (text : Text) (kind : TokenKind) → BeginsWith Letter text → word_in at (run text) ≡ Ok kind →
    IsToken (run text) kind × (length (run text) ≤ name_bytes)
unfolding word_in
letter_kind at text kind begins read =
    elim (cases_Bool (nat_lt name_bytes (length (run text)))) [
      | inl holds ↦ (let e = rw holds at read in cc)
      | inr fails ↦ (
          let short = ltb-false name_bytes (length (run text)) fails in
          (subst (IsToken (run text)) (ok_kind _ _ (rw fails at read)) (word_token text (number_from 0 keywords (run text)) begins short refl), short))
    ]

letter_token : (at : ℕ) (text : Text) (kind : TokenKind) → BeginsWith Letter text → word_in at (run text) ≡ Ok kind →
    BeginsToken text (run text) kind
letter_token at text kind begins read =
    let is = letter_kind at text kind begins read in
    record {
      token = is.0;
      longest = λ bytes rest other text_is token. run_longest text bytes rest other Letter begins refl text_is token;
      no_comment = λ opens. (let e = one_class text Letter Other begins (opens_other text opens) in cc);
      no_bad_number = λ bad. (let e = one_class text Letter Digit begins bad.0 in cc);
      no_wide_number = λ wide. (let e = one_class text Letter Digit begins wide.0 in cc);
      no_long_name = λ long. (let above = long.1 in let below = is.1 in omega arith);
    }

letter_fault : (at : ℕ) (text : Text) (fault : LexError) → BeginsWith Letter text → word_in at (run text) ≡ Err fault →
    FaultStands at text fault
unfolding word_in
letter_fault at text fault begins read =
    elim (cases_Bool (nat_lt name_bytes (length (run text)))) [
      | inl holds ↦ subst (FaultStands at text) (err_kind _ _ (rw holds at read)) ((begins, ltb-true name_bytes (length (run text)) holds), refl)
      | inr fails ↦ (let e = rw fails at read in cc)
    ]

-- ---- numbers

fits_not_wide : (bytes : Text) (kind : TokenKind) (radix : Radix) (digits : Text) (has_u : Bool) → IsNumberToken bytes kind
    → IsConstant bytes radix digits has_u → limit radix has_u < value radix digits → ⊥
fits_not_wide bytes kind radix digits has_u token wide above =
    let number = token.is in
    let same = same_constant bytes number.radix radix number.digits digits number.has_u has_u number.constant wide in
    let low = limit-lt number.radix number.has_u in
    let fits = number.fits in
    let value_is = number.value_is in
    let here = word_value_some (value number.radix number.digits) (omega arith) in
    let there = word_value-Some (value radix digits) (value number.radix number.digits) (sym same.value_is ∙ here) in
    let limits : limit number.radix number.has_u ≡ limit radix has_u = (let r = same.radix_is in let h = same.has_u_is in cc) in
    omega arith

digit_token : (at : ℕ) (text : Text) (kind : TokenKind) → BeginsWith Digit text →
    reading.number at (constant_of (run text)) ≡ Ok kind → BeginsToken text (run text) kind
digit_token at text kind begins read =
    let is = number-Ok at (run text) (constant_of (run text)) kind refl read in
    record {
      token = subst (IsToken (run text)) (sym is.kind_is) is.is;
      longest = λ bytes rest other text_is token. run_longest text bytes rest other Digit begins refl text_is token;
      no_comment = λ opens. (let e = one_class text Digit Other begins (opens_other text opens) in cc);
      no_bad_number = λ bad. bad.1 is.is.radix is.is.digits is.is.has_u is.is.constant;
      no_wide_number = λ wide. fits_not_wide (run text) kind wide.1.0 wide.1.1 wide.1.2 is wide.1.3 wide.1.4;
      no_long_name = λ long. (let e = one_class text Digit Letter begins long.0 in cc);
    }

number_fault : (at : ℕ) (text : Text) (fault : LexError) → BeginsWith Digit text → NumberFault at (run text) fault →
    FaultStands at text fault
number_fault at text (BadNumber place) begins is = ((begins, is.0), is.1)
number_fault at text (TooWide place) begins is = ((begins, is.0), is.1)
number_fault at text (BadByte place) begins is = absurd is
number_fault at text (OpenComment place) begins is = absurd is
number_fault at text (LongName place) begins is = absurd is
number_fault at text NoMemory begins is = absurd is

-- ---- characters

quote_test : (white letter digit quote : Bool) →
    cond white White (cond letter Letter (cond digit Digit (cond quote Quote Other))) ≡ Quote → quote ≡ true
quote_test true letter digit quote is = cc
quote_test false true digit quote is = cc
quote_test false false true quote is = cc
quote_test false false false true is = refl
quote_test false false false false is = cc

quote_byte : (byte : ℕ) → class_of byte ≡ Quote → byte ≡ 39
unfolding class_of
quote_byte byte is = eqb-true byte 39 (quote_test _ _ _ (nat_eq byte 39) is)

quote_text : (text : Text) → BeginsWith Quote text → (rest : Text) × (text ≡ 39 ∷ rest)
quote_text [] begins = absurd begins
quote_text (byte ∷ rest) begins = (rest, ap (λ b. b ∷ rest) (quote_byte byte begins))

-- a token at the beginning of a text that begins with a quote is a character that the code reads
pub quote_prefix : (text bytes rest : Text) (kind : TokenKind) → BeginsWith Quote text → text ≡ bytes ++ rest →
    IsToken bytes kind
    → (character : ℕ) × (kind ≡ Char character) × (character_of text ≡ Some (pair character (length bytes)))
quote_prefix text bytes rest (Char character) begins is token = (character, refl, ap character_of is ∙ character_of_is bytes character rest token)
quote_prefix text bytes rest (Word name) begins is token = (let e = prefix_kind text bytes rest (Word name) Quote is token begins in cc)
quote_prefix text bytes rest (Number n u) begins is token = (let e = prefix_kind text bytes rest (Number n u) Quote is token begins in cc)
quote_prefix text bytes rest (Keyword k) begins is token = (let e = prefix_kind text bytes rest (Keyword k) Quote is token begins in cc)
quote_prefix text bytes rest (Punct k) begins is token = (let e = prefix_kind text bytes rest (Punct k) Quote is token begins in cc)

some_pair : (a b : ℕ × ℕ) → Some a ≡ Some b → a ≡ b
some_pair a b same = cc

quote_token : (text bytes rest : Text) (character : ℕ) → BeginsWith Quote text → text ≡ bytes ++ rest →
    IsCharacter bytes character → BeginsToken text bytes (Char character)
quote_token text bytes rest character begins is token = record {
  token = token;
  longest = λ longer more other text_is other_token. (
      let found = quote_prefix text longer more other begins text_is other_token in
      let here : character_of text ≡ Some (pair character (length bytes)) = ap character_of is ∙ character_of_is bytes character rest token in
      let same : pair found.0 (length longer) ≡ pair character (length bytes) = some_pair _ _ (sym found.2 ∙ here) in
      let long : length longer ≡ length bytes = ap (λ p. p.1) same in
      omega arith);
  no_comment = λ opens. (let e = one_class text Quote Other begins (opens_other text opens) in cc);
  no_bad_number = λ bad. (let e = one_class text Quote Digit begins bad.0 in cc);
  no_wide_number = λ wide. (let e = one_class text Quote Digit begins wide.0 in cc);
  no_long_name = λ long. (let e = one_class text Quote Letter begins long.0 in cc);
}

-- ---- what begins with another byte

pub other_prefix : (text bytes rest : Text) (kind : TokenKind) → BeginsWith Other text → text ≡ bytes ++ rest →
    IsToken bytes kind → (number : ℕ) × (kind ≡ Punct number)
other_prefix text bytes rest (Punct number) begins is token = (number, refl)
other_prefix text bytes rest (Char character) begins is token = (let e = prefix_kind text bytes rest (Char character) Other is token begins in cc)
other_prefix text bytes rest (Word name) begins is token = (let e = prefix_kind text bytes rest (Word name) Other is token begins in cc)
other_prefix text bytes rest (Number n u) begins is token = (let e = prefix_kind text bytes rest (Number n u) Other is token begins in cc)
other_prefix text bytes rest (Keyword k) begins is token = (let e = prefix_kind text bytes rest (Keyword k) Other is token begins in cc)

punct_longest : (text longer more : Text) (kind : TokenKind) (number len : ℕ) (fits : BeginsPunctuator text number len) →
    BeginsWith Other text
    → text ≡ longer ++ more → IsToken longer kind → length longer ≤ length fits.spelling
punct_longest text longer more kind number len fits begins text_is token =
    let found = other_prefix text longer more kind begins text_is token in
    fits.longest longer more found.0 text_is (subst (IsToken longer) found.1 token)

punct_token : (text : Text) (number len : ℕ) → BeginsWith Other text → ¬ (OpensComment text) →
    (fits : BeginsPunctuator text number len) → BeginsToken text fits.spelling (Punct number)
punct_token text number len begins no_comment fits = record {
  token = fits.listed;
  longest = λ longer more kind text_is token. punct_longest text longer more kind number len fits begins text_is token;
  no_comment = no_comment;
  no_bad_number = λ bad. (let e = one_class text Other Digit begins bad.0 in cc);
  no_wide_number = λ wide. (let e = one_class text Other Digit begins wide.0 in cc);
  no_long_name = λ long. (let e = one_class text Other Letter begins long.0 in cc);
}

-- ---- what begins a text

-- a piece as the code sees it
abbrev pub prefix_of : Piece → Prefix
prefix_of (piece.white byte) = Gap 1
prefix_of (piece.line_comment body) = Gap (length body + 2)
prefix_of (piece.block_comment body) = Gap (length body + 4)
prefix_of (piece.token bytes kind) = Token kind (length bytes)

pub len-prefix_of : (stands : Piece) → len_of (prefix_of stands) ≡ length (bytes_of stands)
len-prefix_of (piece.white byte) = refl
len-prefix_of (piece.line_comment body) = omega arith
len-prefix_of (piece.block_comment body) = (let long = length-append body (42 ∷ 47 ∷ []) in omega arith)
len-prefix_of (piece.token bytes kind) = refl

pub tokens-prefix_of : (before : Text) (stands : Piece) →
    tokens_of_piece before stands ≡ tokens_of_prefix (length before) (line_after before) (prefix_of stands)
tokens-prefix_of before (piece.white byte) = refl
tokens-prefix_of before (piece.line_comment body) = refl
tokens-prefix_of before (piece.block_comment body) = refl
tokens-prefix_of before (piece.token bytes kind) = refl

-- a piece that the code sees so stands at the beginning of the text
pub record Explains (text : Text) (found : Prefix) : Type 0 where
  pub stands : Piece
  pub rest : Text
  pub text_is : text ≡ bytes_of stands ++ rest
  pub right : StandsBefore stands rest
  pub found_is : found ≡ prefix_of stands

white_explains : (byte : ℕ) (text : Text) → class_of byte ≡ White → Explains (byte ∷ text) (Gap 1)
white_explains byte text is = record {
  stands = piece.white byte;
  rest = text;
  text_is = refl;
  right = is;
  found_is = refl;
}

token_explains : (text bytes rest : Text) (kind : TokenKind) (len : ℕ) → text ≡ bytes ++ rest → BeginsToken text bytes kind →
    len ≡ length bytes → Explains text (Token kind len)
token_explains text bytes rest kind len is begins len_is = record {
  stands = piece.token bytes kind;
  rest = rest;
  text_is = is;
  right = subst (λ t. BeginsToken t bytes kind) is begins;
  found_is = ap (λ n. Token kind n) len_is;
}

line_explains : (text : Text) → Explains (47 ∷ 47 ∷ text) (Gap (prefix_len not_newline (47 ∷ 47 ∷ text)))
line_explains text = record {
  stands = piece.line_comment (take (prefix_len not_newline text) text);
  rest = drop (prefix_len not_newline text) text;
  text_is = ap (λ t. 47 ∷ 47 ∷ t) (sym (take-append-drop (prefix_len not_newline text) text));
  right = (list_all-take_while not_newline text, EndsLine-after text);
  found_is = (let long = length-take_while not_newline text in ap (λ n. Gap n) (omega arith));
}

block_explains : (text : Text) (len : ℕ) → ClosesAt 0 text len → Explains (47 ∷ 42 ∷ text) (Gap (2 + len))
block_explains text len closed = record {
  stands = piece.block_comment closed.body;
  rest = closed.rest;
  text_is = ap (λ t. 47 ∷ 42 ∷ t) (closed.text_is ∙ sym (append_assoc closed.body (42 ∷ 47 ∷ []) closed.rest));
  right = closed.first;
  found_is = (let is = closed.len_is in ap (λ n. Gap n) (omega arith));
}

letter_explains : (at : ℕ) (text : Text) (read : Result TokenKind LexError) (found : Prefix) → BeginsWith Letter text →
    word_in at (run text) ≡ read
    → run_token (length (run text)) read ≡ Ok found → Explains text found
letter_explains at text (Err fault) found begins read ran = cc
letter_explains at text (Ok kind) found begins read ran =
    subst (Explains text) (ok_prefix _ _ ran)
    (token_explains text (run text) (drop (prefix_len is_run_byte text) text) kind (length (run text)) (run_rest text) (letter_token at text kind begins read) refl)

digit_explains : (at : ℕ) (text : Text) (read : Result TokenKind LexError) (found : Prefix) → BeginsWith Digit text →
    reading.number at (constant_of (run text)) ≡ read
    → run_token (length (run text)) read ≡ Ok found → Explains text found
digit_explains at text (Err fault) found begins read ran = cc
digit_explains at text (Ok kind) found begins read ran =
    subst (Explains text) (ok_prefix _ _ ran)
    (token_explains text (run text) (drop (prefix_len is_run_byte text) text) kind (length (run text)) (run_rest text) (digit_token at text kind begins read) refl)

character_explains : (text : Text) (character len : ℕ) → BeginsWith Quote text → BeginsCharacter text character len →
    Explains text (Token (Char character) len)
character_explains text character len begins is =
    token_explains text is.bytes is.rest (Char character) len is.text_is (quote_token text is.bytes is.rest character begins is.text_is is.is) is.len_is

quote_explains : (at : ℕ) (text : Text) (read : Option (ℕ × ℕ)) (found : Prefix) → BeginsWith Quote text →
    character_of text ≡ read
    → reading.character at read ≡ Ok found → Explains text found
quote_explains at text None found begins read ran = cc
quote_explains at text (Some (character, len)) found begins read ran =
    let quote = quote_text text begins in
    let is : BeginsCharacter text character len = subst (λ t. BeginsCharacter t character len) (sym quote.1) (character_of-Some quote.0 character len (sym (ap character_of quote.1) ∙ read)) in
    subst (Explains text) (ok_prefix _ _ ran) (character_explains text character len begins is)

punct_explains : (at : ℕ) (text : Text) (read : Option (ℕ × ℕ)) (found : Prefix) → BeginsWith Other text →
    ¬ (OpensComment text) → longest_punctuator text ≡ read
    → reading.punctuator at read ≡ Ok found → Explains text found
punct_explains at text None found begins no_comment read ran = cc
punct_explains at text (Some (number, len)) found begins no_comment read ran =
    let fits = longest_punctuator-Some text number len read in
    subst (Explains text) (ok_prefix _ _ ran)
    (token_explains text fits.spelling fits.rest (Punct number) len fits.text_is (punct_token text number len begins no_comment fits) fits.len_is)

block_read : (at : ℕ) (text : Text) (read : Option ℕ) (found : Prefix) → close_from 0 text ≡ read →
    reading.block_comment at read ≡ Ok found → Explains (47 ∷ 42 ∷ text) found
block_read at text None found read ran = cc
block_read at text (Some len) found read ran = subst (Explains (47 ∷ 42 ∷ text)) (ok_prefix _ _ ran) (block_explains text len (close_from-Some 0 text len read))

-- the first two bytes, where their tests hold
two_bytes : (text : Text) (second : ℕ) → 0 < second →
    (nat_eq (slice_index text 0) 47 && nat_eq (slice_index text 1) second) ≡ true → (rest : Text) × (text ≡ 47 ∷ second ∷ rest)
two_bytes [] second some holds = cc
two_bytes (a ∷ []) second some holds =
    let parts = and_parts (nat_eq a 47) (nat_eq 0 second) holds in
    let zero_is = eqb-true 0 second parts.1 in
    absurd (omega arith)
two_bytes (a ∷ b ∷ rest) second some holds =
    let parts = and_parts (nat_eq a 47) (nat_eq b second) holds in
    let first_is = eqb-true a 47 parts.0 in
    let second_is = eqb-true b second parts.1 in
    (rest, cc)

-- where neither test holds, no comment begins
no_comment_tests : (text : Text) → (nat_eq (slice_index text 0) 47 && nat_eq (slice_index text 1) 47) ≡ false
    → (nat_eq (slice_index text 0) 47 && nat_eq (slice_index text 1) 42) ≡ false → ¬ (OpensComment text)
no_comment_tests text line block (rest, inl is) = both_ways _ line (ap (λ t. nat_eq (slice_index t 0) 47 && nat_eq (slice_index t 1) 47) is)
no_comment_tests text line block (rest, inr is) = both_ways _ block (ap (λ t. nat_eq (slice_index t 0) 47 && nat_eq (slice_index t 1) 42) is)

other_explains : (at : ℕ) (text : Text) (found : Prefix) → BeginsWith Other text → other at text ≡ Ok found →
    Explains text found
unfolding other
other_explains at text found begins read =
    elim (cases_Bool (nat_eq (slice_index text 0) 47 && nat_eq (slice_index text 1) 47)) [
      | inl line ↦ (
          let two = two_bytes text 47 (omega arith) line in
          let e = rw line at read in
          subst (Explains text) (ok_prefix _ _ e) (subst (λ t. Explains t (Gap (prefix_len not_newline t))) (sym two.1) (line_explains two.0)))
      | inr no_line ↦ elim (cases_Bool (nat_eq (slice_index text 0) 47 && nat_eq (slice_index text 1) 42)) [
        | inl block ↦ (
            let two = two_bytes text 42 (omega arith) block in
            let e = rw (no_line, block) at read in
            subst (λ t. Explains t found) (sym two.1)
            (block_read at two.0 (close_from 0 two.0) found refl (sym (ap (λ t. reading.block_comment at (close_from 0 (drop 2 t))) two.1) ∙ e)))
        | inr no_block ↦ (
            let e = rw (no_line, no_block) at read in
            punct_explains at text (longest_punctuator text) found begins (no_comment_tests text no_line no_block) refl e)
      ]
    ]

by_class : (class : Class) (at byte : ℕ) (text : Text) (found : Prefix) → class_of byte ≡ class →
    prefix_in class at (byte ∷ text) ≡ Ok found → Explains (byte ∷ text) found
by_class White at byte text found is read = subst (Explains (byte ∷ text)) (ok_prefix _ _ read) (white_explains byte text is)
by_class Letter at byte text found is read = letter_explains at (byte ∷ text) (word_in at (run (byte ∷ text))) found is refl read
by_class Digit at byte text found is read = digit_explains at (byte ∷ text) (reading.number at (constant_of (run (byte ∷ text)))) found is refl read
by_class Quote at byte text found is read = quote_explains at (byte ∷ text) (character_of (byte ∷ text)) found is refl read
by_class Other at byte text found is read = other_explains at (byte ∷ text) found is read

pub explained : (at : ℕ) (text : Text) (found : Prefix) → 0 < length text → prefix at text ≡ Ok found → Explains text found
unfolding prefix
explained at [] found some read = absurd (omega arith)
explained at (byte ∷ text) found some read = by_class (class_of byte) at byte text found refl read

-- ---- faults

bad_quote : (at : ℕ) (text : Text) → BeginsWith Quote text → character_of text ≡ None → IsBadByte text
bad_quote at text begins missing = record {
  some = λ empty. (let e = subst (BeginsWith Quote) empty begins in absurd e);
  no_piece = λ stands rest is right. no_quote stands rest is right;
  no_comment = λ opens. (let e = one_class text Quote Other begins (open_comment_other text opens) in cc);
  no_bad_number = λ bad. (let e = one_class text Quote Digit begins bad.0 in cc);
  no_wide_number = λ wide. (let e = one_class text Quote Digit begins wide.0 in cc);
  no_long_name = λ long. (let e = one_class text Quote Letter begins long.0 in cc);
}
  where
    no_quote : (stands : Piece) (rest : Text) → text ≡ bytes_of stands ++ rest → StandsBefore stands rest → ⊥
    no_quote (piece.white byte) rest is right = (let e = one_class text Quote White begins (subst (BeginsWith White) (sym is) right) in cc)
    no_quote (piece.line_comment body) rest is right = (let e = one_class text Quote Other begins (subst (BeginsWith Other) (sym is) class_slash) in cc)
    no_quote (piece.block_comment body) rest is right = (let e = one_class text Quote Other begins (subst (BeginsWith Other) (sym is) class_slash) in cc)
    no_quote (piece.token bytes kind) rest is right = (let found = quote_prefix text bytes rest kind begins is right.token in let e = sym missing ∙ found.2 in cc)

bad_other : (at : ℕ) (text : Text) → BeginsWith Other text → ¬ (OpensComment text) → longest_punctuator text ≡ None →
    IsBadByte text
bad_other at text begins no_comment missing = record {
  some = λ empty. (let e = subst (BeginsWith Other) empty begins in absurd e);
  no_piece = λ stands rest is right. no_other stands rest is right;
  no_comment = λ opens. no_comment (opens.0, inr opens.1);
  no_bad_number = λ bad. (let e = one_class text Other Digit begins bad.0 in cc);
  no_wide_number = λ wide. (let e = one_class text Other Digit begins wide.0 in cc);
  no_long_name = λ long. (let e = one_class text Other Letter begins long.0 in cc);
}
  where
    no_other : (stands : Piece) (rest : Text) → text ≡ bytes_of stands ++ rest → StandsBefore stands rest → ⊥
    no_other (piece.white byte) rest is right = (let e = one_class text Other White begins (subst (BeginsWith White) (sym is) right) in cc)
    no_other (piece.line_comment body) rest is right = no_comment (body ++ rest, inl is)
    no_other (piece.block_comment body) rest is right = no_comment ((body ++ 42 ∷ 47 ∷ []) ++ rest, inr is)
    no_other (piece.token bytes kind) rest is right =
        let found = other_prefix text bytes rest kind begins is right.token in
        longest_punctuator-None text missing bytes rest found.0 is (subst (IsToken bytes) found.1 right.token)

quote_fault : (at : ℕ) (text : Text) (read : Option (ℕ × ℕ)) (fault : LexError) → BeginsWith Quote text →
    character_of text ≡ read → reading.character at read ≡ Err fault → FaultStands at text fault
quote_fault at text None fault begins read ran = subst (FaultStands at text) (err_prefix _ _ ran) (bad_quote at text begins read, refl)
quote_fault at text (Some found) fault begins read ran = cc

punct_fault : (at : ℕ) (text : Text) (read : Option (ℕ × ℕ)) (fault : LexError) → BeginsWith Other text →
    ¬ (OpensComment text) → longest_punctuator text ≡ read
    → reading.punctuator at read ≡ Err fault → FaultStands at text fault
punct_fault at text None fault begins no_comment read ran = subst (FaultStands at text) (err_prefix _ _ ran) (bad_other at text begins no_comment read, refl)
punct_fault at text (Some found) fault begins no_comment read ran = cc

block_fault : (at : ℕ) (text : Text) (read : Option ℕ) (fault : LexError) → close_from 0 text ≡ read →
    reading.block_comment at read ≡ Err fault → FaultStands at (47 ∷ 42 ∷ text) fault
block_fault at text None fault read ran = subst (FaultStands at (47 ∷ 42 ∷ text)) (err_prefix _ _ ran) ((text, refl, close_from-None 0 text read), refl)
block_fault at text (Some len) fault read ran = cc

other_fault : (at : ℕ) (text : Text) (fault : LexError) → BeginsWith Other text → other at text ≡ Err fault →
    FaultStands at text fault
unfolding other
other_fault at text fault begins read =
    elim (cases_Bool (nat_eq (slice_index text 0) 47 && nat_eq (slice_index text 1) 47)) [
      | inl line ↦ (let e = rw line at read in cc)
      | inr no_line ↦ elim (cases_Bool (nat_eq (slice_index text 0) 47 && nat_eq (slice_index text 1) 42)) [
        | inl block ↦ (
            let two = two_bytes text 42 (omega arith) block in
            let e = rw (no_line, block) at read in
            subst (λ t. FaultStands at t fault) (sym two.1)
            (block_fault at two.0 (close_from 0 two.0) fault refl (sym (ap (λ t. reading.block_comment at (close_from 0 (drop 2 t))) two.1) ∙ e)))
        | inr no_block ↦ (
            let e = rw (no_line, no_block) at read in
            punct_fault at text (longest_punctuator text) fault begins (no_comment_tests text no_line no_block) refl e)
      ]
    ]

run_fault : (len : ℕ) (read : Result TokenKind LexError) (fault : LexError) → run_token len read ≡ Err fault → read ≡ Err fault
run_fault len (Err other) fault ran = ap Err (err_prefix _ _ ran)
run_fault len (Ok kind) fault ran = cc

fault_by_class : (class : Class) (at byte : ℕ) (text : Text) (fault : LexError) → class_of byte ≡ class →
    prefix_in class at (byte ∷ text) ≡ Err fault → FaultStands at (byte ∷ text) fault
fault_by_class White at byte text fault is read = cc
fault_by_class Letter at byte text fault is read = letter_fault at (byte ∷ text) fault is (run_fault _ _ _ read)
fault_by_class Digit at byte text fault is read =
    number_fault at (byte ∷ text) fault is (number-Err at (run (byte ∷ text)) (constant_of (run (byte ∷ text))) fault refl (run_fault _ _ _ read))
fault_by_class Quote at byte text fault is read = quote_fault at (byte ∷ text) (character_of (byte ∷ text)) fault is refl read
fault_by_class Other at byte text fault is read = other_fault at (byte ∷ text) fault is read

pub fault_explained : (at : ℕ) (text : Text) (fault : LexError) → 0 < length text → prefix at text ≡ Err fault →
    FaultStands at text fault
unfolding prefix
fault_explained at [] fault some read = absurd (omega arith)
fault_explained at (byte ∷ text) fault some read = fault_by_class (class_of byte) at byte text fault refl read

-- every piece has a byte
pub piece_some : (stands : Piece) (rest : Text) → StandsBefore stands rest → 0 < length (bytes_of stands)
piece_some (piece.white byte) rest right = omega arith
piece_some (piece.line_comment body) rest right = omega arith
piece_some (piece.block_comment body) rest right = omega arith
piece_some (piece.token bytes kind) rest right = token_some bytes kind right.token

-- so has the text at a fault
begins_some : (class : Class) (text : Text) → BeginsWith class text → 0 < length text
begins_some class [] begins = absurd begins
begins_some class (byte ∷ text) begins = omega arith

bad_byte_some : (text : Text) → IsBadByte text → 0 < length text
bad_byte_some [] bad = absurd (bad.some refl)
bad_byte_some (byte ∷ text) bad = omega arith

pub fault_some : (at : ℕ) (text : Text) (fault : LexError) → FaultStands at text fault → 0 < length text
fault_some at text (BadByte place) stands = bad_byte_some text stands.0
fault_some at text (OpenComment place) stands = begins_some Other text (open_comment_other text stands.0)
fault_some at text (BadNumber place) stands = begins_some Digit text stands.0.0
fault_some at text (TooWide place) stands = begins_some Digit text stands.0.0
fault_some at text (LongName place) stands = begins_some Letter text stands.0.0
fault_some at text NoMemory stands = absurd stands

pub fault_place : (at : ℕ) (text : Text) (fault : LexError) → FaultStands at text fault → place_of fault ≡ Some at
fault_place at text (BadByte place) stands = ap Some stands.1
fault_place at text (OpenComment place) stands = ap Some stands.1
fault_place at text (BadNumber place) stands = ap Some stands.1
fault_place at text (TooWide place) stands = ap Some stands.1
fault_place at text (LongName place) stands = ap Some stands.1
fault_place at text NoMemory stands = absurd stands
