-- A text reads in one way: what stands at a place is what the code reads there, and each text has a reading.
use Rattle.std.proofs.Common.{◌≡◌, ℕ, zero, suc, ◌+◌, ◌-◌, ◌<◌, ◌≤◌, Bool, true, false, ◌⊎◌, inl, inr, List, [], ◌∷◌, ◌++◌, length, take, drop, Option, Some, None, Result, Ok, Err, refl, sym, ap, ap₂, ◌∙◌, subst, arith, append_assoc, append-nil, length-append, length-drop, take_at, drop_at}
use Rattle.std.specs.List.{list_all}
use Rattle.std.proofs.lemmas.Bool.{lt-ltb, lt-leb}
use Rattle.pw_base.specs.Limits.{name_bytes}
use Rattle.pw_lex.specs.declared.bytes.Class.TheVariants.{White, Letter, Digit}
use Rattle.pw_lex.specs.declared.number.Radix.{Radix}
use Rattle.pw_lex.specs.declared.number.Constant.{Constant}
use Rattle.pw_lex.specs.declared.error.LexError.{LexError}
use Rattle.pw_lex.specs.declared.error.LexError.TheVariants.{BadByte, OpenComment, BadNumber, TooWide, LongName, NoMemory}
use Rattle.pw_lex.specs.declared.prefix.Prefix.{Prefix}
use Rattle.pw_lex.specs.declared.prefix.Prefix.TheVariants.{Gap, Token}
use Rattle.pw_lex.specs.declared.token.Token as a_token
use Rattle.pw_lex.specs.declared.token.TokenKind.{TokenKind}
use Rattle.pw_lex.specs.declared.token.TokenKind.TheVariants.{Word, Number, Char, Keyword, Punct}
use Rattle.pw_lex.specs.Bytes.{Text, class_of, BeginsWith, run}
use Rattle.pw_lex.specs.Spellings.{keywords, punctuators}
use Rattle.pw_lex.specs.Number.{IsConstant, value, limit}
use Rattle.pw_lex.specs.Token.{IsToken}
use Rattle.pw_lex.specs.Fault as piece
use Rattle.pw_lex.specs.Fault.{Piece, bytes_of, not_newline, EndsLine, closes, BeginsToken, StandsBefore, IsBadByte}
use Rattle.pw_lex.specs.Text.{spelled, Stand, tokens_of_piece, tokens_after, line_after, HasTokens, FaultStands, HasFault}
use Rattle.pw_lex.specs.Laws.{HasReading, NotBoth, OneList, OneFault}
use Rattle.pw_lex.specs.Reading as reading
use Rattle.pw_lex.specs.Reading.{close_from, constant_of, word_value, number_kind, word_in, run_token, prefix_in, prefix, other, len_of, tokens_of_prefix}
use Rattle.pw_lex.proofs.Lists.{prefix_len-append}
use Rattle.pw_lex.proofs.Entries.{all_differ, one_number}
use Rattle.pw_lex.proofs.FirstBytes.{kind_class, token_begins}
use Rattle.pw_lex.proofs.Comments.{prefix_len_ends, close_from_body, close_from_none}
use Rattle.pw_lex.proofs.Characters.{pair, character_of_is}
use Rattle.pw_lex.proofs.Constants.{constant_of-Some, constant_of_is, word_value-Some, one_number_value}
use Rattle.pw_lex.proofs.Prefixes.{one_class, prefix_kind, prefix_of, len-prefix_of, tokens-prefix_of, explained, piece_some, fault_some, fault_explained}
use Rattle.pw_lex.proofs.Whole.{IsRead, read_start, read_more, read_end, read_fault, prefix_within}

-- ---- bytes are a token of one kind

keywords_differ : all_differ keywords ≡ true
unfolding keywords
keywords_differ = refl

punctuators_differ : all_differ punctuators ≡ true
unfolding punctuators
punctuators_differ = refl

some_pair : (a b : ℕ × ℕ) → Some a ≡ Some b → a ≡ b
some_pair a b same = cc

same_class : (bytes : Text) (kind other : TokenKind) → IsToken bytes kind → IsToken bytes other →
    kind_class kind ≡ kind_class other
same_class bytes kind other is too = one_class bytes (kind_class kind) (kind_class other) (token_begins bytes kind is) (token_begins bytes other too)

one_kind : (bytes : Text) (kind other : TokenKind) → IsToken bytes kind → IsToken bytes other → kind ≡ other
one_kind bytes (Word name) (Word same) is too = ap Word (is.1 ∙ sym too.1)
one_kind bytes (Word name) (Keyword k) is too = absurd (is.0.no_keyword k too)
one_kind bytes (Keyword k) (Word name) is too = absurd (too.0.no_keyword k is)
one_kind bytes (Keyword j) (Keyword k) is too = ap Keyword (one_number keywords bytes j k keywords_differ is too)
one_kind bytes (Punct j) (Punct k) is too = ap Punct (one_number punctuators bytes j k punctuators_differ is too)
one_kind bytes (Char a) (Char b) is too =
    let same : pair a (length bytes) ≡ pair b (length bytes) = some_pair _ _ (sym (character_of_is bytes a [] is) ∙ character_of_is bytes b [] too) in
    ap (λ p. Char p.0) same
one_kind bytes (Number n u) (Number m v) is too = (let same = one_number_value bytes n m u v is too in ap₂ Number same.0 same.1)
one_kind bytes (Word name) (Number m v) is too = (let e = same_class bytes (Word name) (Number m v) is too in cc)
one_kind bytes (Word name) (Char b) is too = (let e = same_class bytes (Word name) (Char b) is too in cc)
one_kind bytes (Word name) (Punct k) is too = (let e = same_class bytes (Word name) (Punct k) is too in cc)
one_kind bytes (Keyword j) (Number m v) is too = (let e = same_class bytes (Keyword j) (Number m v) is too in cc)
one_kind bytes (Keyword j) (Char b) is too = (let e = same_class bytes (Keyword j) (Char b) is too in cc)
one_kind bytes (Keyword j) (Punct k) is too = (let e = same_class bytes (Keyword j) (Punct k) is too in cc)
one_kind bytes (Punct j) (Word name) is too = (let e = same_class bytes (Punct j) (Word name) is too in cc)
one_kind bytes (Punct j) (Number m v) is too = (let e = same_class bytes (Punct j) (Number m v) is too in cc)
one_kind bytes (Punct j) (Char b) is too = (let e = same_class bytes (Punct j) (Char b) is too in cc)
one_kind bytes (Punct j) (Keyword k) is too = (let e = same_class bytes (Punct j) (Keyword k) is too in cc)
one_kind bytes (Char a) (Word name) is too = (let e = same_class bytes (Char a) (Word name) is too in cc)
one_kind bytes (Char a) (Number m v) is too = (let e = same_class bytes (Char a) (Number m v) is too in cc)
one_kind bytes (Char a) (Keyword k) is too = (let e = same_class bytes (Char a) (Keyword k) is too in cc)
one_kind bytes (Char a) (Punct k) is too = (let e = same_class bytes (Char a) (Punct k) is too in cc)
one_kind bytes (Number n u) (Word name) is too = (let e = same_class bytes (Number n u) (Word name) is too in cc)
one_kind bytes (Number n u) (Char b) is too = (let e = same_class bytes (Number n u) (Char b) is too in cc)
one_kind bytes (Number n u) (Keyword k) is too = (let e = same_class bytes (Number n u) (Keyword k) is too in cc)
one_kind bytes (Number n u) (Punct k) is too = (let e = same_class bytes (Number n u) (Punct k) is too in cc)

-- ---- what stands is read

same_prefixes : (v w t u : Text) → v ++ t ≡ w ++ u → length v ≡ length w → (v ≡ w) × (t ≡ u)
same_prefixes v w t u is long = (
  sym (take_at v t (length v) refl) ∙ ap (take (length v)) is ∙ take_at w u (length v) (sym long),
  sym (drop_at v t (length v) refl) ∙ ap (drop (length v)) is ∙ drop_at w u (length v) (sym long),
)

kind_not_white : (kind : TokenKind) → kind_class kind ≡ White → ⊥
kind_not_white (Word name) is = cc
kind_not_white (Number n u) is = cc
kind_not_white (Char a) is = cc
kind_not_white (Keyword k) is = cc
kind_not_white (Punct k) is = cc

-- where a token begins, each piece that stands there is this token
same_token : (bytes rest more : Text) (kind : TokenKind) (stands : Piece) → BeginsToken (bytes ++ rest) bytes kind →
    bytes ++ rest ≡ bytes_of stands ++ more
    → StandsBefore stands more → prefix_of stands ≡ Token kind (length bytes)
same_token bytes rest more kind (piece.white byte) begins is right =
    absurd (kind_not_white kind (prefix_kind (byte ∷ more) bytes rest kind White (sym is) begins.token right))
same_token bytes rest more kind (piece.line_comment body) begins is right = absurd (begins.no_comment (body ++ more, inl is))
same_token bytes rest more kind (piece.block_comment body) begins is right = absurd (begins.no_comment ((body ++ 42 ∷ 47 ∷ []) ++ more, inr is))
same_token bytes rest more kind (piece.token found other) begins is right =
    let below = begins.longest found more other is right.token in
    let above = right.longest bytes rest kind (sym is) begins.token in
    let long : length found ≡ length bytes = omega arith in
    let same = same_prefixes found bytes more rest (sym is) long in
    let kinds : other ≡ kind = one_kind bytes other kind (subst (λ b. IsToken b other) same.0 right.token) begins.token in
    ap₂ Token kinds long

no_fault_at_token : (at : ℕ) (bytes rest : Text) (kind : TokenKind) (fault : LexError) →
    BeginsToken (bytes ++ rest) bytes kind → FaultStands at (bytes ++ rest) fault → ⊥
no_fault_at_token at bytes rest kind (BadByte place) begins stands = stands.0.no_piece (piece.token bytes kind) rest refl begins
no_fault_at_token at bytes rest kind (OpenComment place) begins stands = begins.no_comment (stands.0.0, inr stands.0.1)
no_fault_at_token at bytes rest kind (BadNumber place) begins stands = begins.no_bad_number stands.0
no_fault_at_token at bytes rest kind (TooWide place) begins stands = begins.no_wide_number stands.0
no_fault_at_token at bytes rest kind (LongName place) begins stands = begins.no_long_name stands.0
no_fault_at_token at bytes rest kind NoMemory begins stands = absurd stands

token_read : (at : ℕ) (bytes rest : Text) (kind : TokenKind) (read : Result Prefix LexError) → 0 < length (bytes ++ rest) →
    BeginsToken (bytes ++ rest) bytes kind
    → prefix at (bytes ++ rest) ≡ read → prefix at (bytes ++ rest) ≡ Ok (Token kind (length bytes))
token_read at bytes rest kind (Ok found) some begins is =
    let e = explained at (bytes ++ rest) found some is in
    is ∙ ap Ok (e.found_is ∙ same_token bytes rest e.rest kind e.stands begins e.text_is e.right)
token_read at bytes rest kind (Err fault) some begins is =
    absurd (no_fault_at_token at bytes rest kind fault begins (fault_explained at (bytes ++ rest) fault some is))

white_read : (at byte : ℕ) (rest : Text) → class_of byte ≡ White → prefix at (byte ∷ rest) ≡ Ok (Gap 1)
unfolding prefix
white_read at byte rest is = rw is refl

slash_read : (at : ℕ) (rest : Text) → prefix at (47 ∷ rest) ≡ other at (47 ∷ rest)
unfolding prefix class_of
slash_read at rest = refl

line_read : (at : ℕ) (body rest : Text) → list_all not_newline body ≡ true → EndsLine rest →
    other at (47 ∷ 47 ∷ (body ++ rest)) ≡ Ok (Gap (length body + 2))
unfolding other
line_read at body rest passes ends =
    let len = prefix_len-append not_newline body rest passes in
    let stop = prefix_len_ends rest ends in
    ap (λ n. Ok (Gap n)) (omega arith)

block_read : (at : ℕ) (body rest : Text) → closes (body ++ 42 ∷ []) ≡ false →
    other at (47 ∷ 42 ∷ ((body ++ 42 ∷ 47 ∷ []) ++ rest)) ≡ Ok (Gap (length body + 4))
unfolding other
block_read at body rest first =
    ap (λ t. reading.block_comment at (close_from 0 t)) (append_assoc body (42 ∷ 47 ∷ []) rest)
    ∙ ap (reading.block_comment at) (close_from_body 0 body rest first)
    ∙ ap (λ n. Ok (Gap n)) (omega arith)

pub stands_read : (at : ℕ) (stands : Piece) (rest : Text) → StandsBefore stands rest →
    prefix at (bytes_of stands ++ rest) ≡ Ok (prefix_of stands)
stands_read at (piece.white byte) rest right = white_read at byte rest right
stands_read at (piece.line_comment body) rest right = slash_read at (47 ∷ (body ++ rest)) ∙ line_read at body rest right.0 right.1
stands_read at (piece.block_comment body) rest right = slash_read at (42 ∷ ((body ++ 42 ∷ 47 ∷ []) ++ rest)) ∙ block_read at body rest right
stands_read at (piece.token bytes kind) rest right =
    let some = piece_some (piece.token bytes kind) rest right in
    let long = length-append bytes rest in
    token_read at bytes rest kind (prefix at (bytes ++ rest)) (omega arith) right refl

-- ---- a fault that stands is read

open_read : (at : ℕ) (body : Text) → closes body ≡ false → other at (47 ∷ 42 ∷ body) ≡ Err (OpenComment at)
unfolding other
open_read at body open_ = ap (reading.block_comment at) (close_from_none 0 body open_)

letter_read : (at : ℕ) (text : Text) → BeginsWith Letter text →
    prefix at text ≡ run_token (length (run text)) (word_in at (run text))
unfolding prefix
letter_read at [] begins = absurd begins
letter_read at (byte ∷ text) begins = ap (λ class. prefix_in class at (byte ∷ text)) begins

digit_read : (at : ℕ) (text : Text) → BeginsWith Digit text →
    prefix at text ≡ run_token (length (run text)) (reading.number at (constant_of (run text)))
unfolding prefix
digit_read at [] begins = absurd begins
digit_read at (byte ∷ text) begins = ap (λ class. prefix_in class at (byte ∷ text)) begins

long_read : (at : ℕ) (bytes : Text) → name_bytes < length bytes → word_in at bytes ≡ Err (LongName at)
unfolding word_in
long_read at bytes long = rw (lt-ltb name_bytes (length bytes) long) refl

bad_read : (at : ℕ) (bytes : Text) (found : Option Constant) → constant_of bytes ≡ found →
    ((radix : Radix) (digits : Text) (has_u : Bool) → ¬ (IsConstant bytes radix digits has_u))
    → reading.number at found ≡ Err (BadNumber at)
bad_read at bytes None is none = refl
bad_read at bytes (Some constant) is none = (let c = constant_of-Some bytes constant is in absurd (none constant.radix c.digits constant.has_u c.is))

wide_read : (at : ℕ) (radix : Radix) (has_u : Bool) (number : ℕ) (found : Option ℕ) → word_value number ≡ found →
    limit radix has_u < number → number_kind at radix has_u found ≡ Err (TooWide at)
wide_read at radix has_u number None is above = refl
wide_read at radix has_u number (Some n) is above =
    let same = word_value-Some number n is in
    rw (lt-leb n (limit radix has_u) (omega arith)) refl

bad_byte_read : (at : ℕ) (text : Text) (read : Result Prefix LexError) → IsBadByte text → 0 < length text →
    prefix at text ≡ read → prefix at text ≡ Err (BadByte at)
bad_byte_read at text (Ok found) bad some is =
    let e = explained at text found some is in
    absurd (bad.no_piece e.stands e.rest e.text_is e.right)
bad_byte_read at text (Err (BadByte place)) bad some is = (let stands = fault_explained at text (BadByte place) some is in is ∙ ap (λ p. Err (BadByte p)) stands.1)
bad_byte_read at text (Err (OpenComment place)) bad some is = absurd (bad.no_comment (fault_explained at text (OpenComment place) some is).0)
bad_byte_read at text (Err (BadNumber place)) bad some is = absurd (bad.no_bad_number (fault_explained at text (BadNumber place) some is).0)
bad_byte_read at text (Err (TooWide place)) bad some is = absurd (bad.no_wide_number (fault_explained at text (TooWide place) some is).0)
bad_byte_read at text (Err (LongName place)) bad some is = absurd (bad.no_long_name (fault_explained at text (LongName place) some is).0)
bad_byte_read at text (Err NoMemory) bad some is = absurd (fault_explained at text NoMemory some is)

pub fault_read : (at : ℕ) (text : Text) (fault : LexError) → FaultStands at text fault → prefix at text ≡ Err fault
fault_read at text (BadByte place) stands =
    bad_byte_read at text (prefix at text) stands.0 (fault_some at text (BadByte place) stands) refl ∙ ap (λ p. Err (BadByte p)) (sym stands.1)
fault_read at text (OpenComment place) stands =
    ap (prefix at) stands.0.1 ∙ slash_read at (42 ∷ stands.0.0) ∙ open_read at stands.0.0 stands.0.2 ∙ ap (λ p. Err (OpenComment p)) (sym stands.1)
fault_read at text (BadNumber place) stands =
    digit_read at text stands.0.0 ∙ ap (run_token (length (run text))) (bad_read at (run text) (constant_of (run text)) refl stands.0.1) ∙ ap (λ p. Err (BadNumber p)) (sym stands.1)
fault_read at text (TooWide place) stands =
    let wide = stands.0.1 in
    digit_read at text stands.0.0
    ∙ ap (λ c. run_token (length (run text)) (reading.number at c)) (constant_of_is (run text) wide.0 wide.1 wide.2 wide.3)
    ∙ ap (run_token (length (run text))) (wide_read at wide.0 wide.2 (value wide.0 wide.1) (word_value (value wide.0 wide.1)) refl wide.4)
    ∙ ap (λ p. Err (TooWide p)) (sym stands.1)
fault_read at text (LongName place) stands =
    letter_read at text stands.0.0 ∙ ap (run_token (length (run text))) (long_read at (run text) stands.0.1) ∙ ap (λ p. Err (LongName p)) (sym stands.1)
fault_read at text NoMemory stands = absurd stands

-- ---- two readings of a text are one

-- no piece begins the text
abbrev Stops : Text → Type 0
Stops text = (stands : Piece) (rest : Text) → text ≡ bytes_of stands ++ rest → StandsBefore stands rest → ⊥

stops_end : Stops []
stops_end stands rest is right =
    let some = piece_some stands rest right in
    let long = ap length is ∙ length-append (bytes_of stands) rest in
    absurd (omega arith)

stops_fault : (at : ℕ) (text : Text) (fault : LexError) → FaultStands at text fault → Stops text
stops_fault at text fault stands_fault stands rest is right =
    let e = sym (stands_read at stands rest right) ∙ ap (prefix at) (sym is) ∙ fault_read at text fault stands_fault in
    cc

ok_prefix : (a b : Prefix) → ◌≡◌ {A = Result Prefix LexError} (Ok a) (Ok b) → a ≡ b
ok_prefix a b same = cc

record SameReading (before : Text) (pieces others : List Piece) (rest more : Text) : Type 0 where
  tokens_are : tokens_after before pieces ≡ tokens_after before others
  rest_is : rest ≡ more
  spelled_is : spelled pieces ≡ spelled others

same_reading : (before : Text) (pieces others : List Piece) (rest more : Text) → spelled pieces ++ rest ≡ spelled others ++ more
    → Stand pieces rest → Stand others more → Stops rest → Stops more → SameReading before pieces others rest more
same_reading before [] [] rest more is stand stand_too stops stops_too = record { tokens_are = refl; rest_is = is; spelled_is = refl }
same_reading before [] (other ∷ others) rest more is stand stand_too stops stops_too =
    absurd (stops other (spelled others ++ more) (is ∙ append_assoc (bytes_of other) (spelled others) more) stand_too.0)
same_reading before (first ∷ pieces) [] rest more is stand stand_too stops stops_too =
    absurd (stops_too first (spelled pieces ++ rest) (sym is ∙ append_assoc (bytes_of first) (spelled pieces) rest) stand.0)
same_reading before (first ∷ pieces) (other ∷ others) rest more is stand stand_too stops stops_too =
    let texts : bytes_of first ++ (spelled pieces ++ rest) ≡ bytes_of other ++ (spelled others ++ more) =
    sym (append_assoc (bytes_of first) (spelled pieces) rest) ∙ is ∙ append_assoc (bytes_of other) (spelled others) more in
    let prefixes : prefix_of first ≡ prefix_of other =
    ok_prefix _ _ (sym (stands_read 0 first (spelled pieces ++ rest) stand.0) ∙ ap (prefix 0) texts ∙ stands_read 0 other (spelled others ++ more) stand_too.0) in
    let long : length (bytes_of first) ≡ length (bytes_of other) = sym (len-prefix_of first) ∙ ap len_of prefixes ∙ len-prefix_of other in
    let same = same_prefixes (bytes_of first) (bytes_of other) (spelled pieces ++ rest) (spelled others ++ more) texts long in
    let later = same_reading (before ++ bytes_of first) pieces others rest more same.1 stand.1 stand_too.1 stops stops_too in
    let here : tokens_of_piece before first ≡ tokens_of_piece before other =
    tokens-prefix_of before first ∙ ap (tokens_of_prefix (length before) (line_after before)) prefixes ∙ sym (tokens-prefix_of before other) in
    record {
      tokens_are = ap₂ (λ a b. a ++ b) here (later.tokens_are ∙ ap (λ b. tokens_after (before ++ b) others) same.0);
      rest_is = later.rest_is;
      spelled_is = ap₂ (λ a b. a ++ b) same.0 later.spelled_is;
    }

to_end : (text : Text) (tokens : List a_token.Token) (has : HasTokens text tokens) → text ≡ spelled has.pieces ++ []
to_end text tokens has = has.text_is ∙ sym (append-nil (spelled has.pieces))

pub one_list : OneList
one_list text tokens others has too =
    let same = same_reading [] has.pieces too.pieces [] [] (sym (to_end text tokens has) ∙ to_end text others too) has.stand too.stand stops_end stops_end in
    has.tokens_are ∙ same.tokens_are ∙ sym too.tokens_are

pub one_fault : OneFault
one_fault text fault other has too =
    let same = same_reading [] has.pieces too.pieces has.rest too.rest (sym has.text_is ∙ too.text_is) has.stand too.stand
    (stops_fault _ has.rest fault has.stands) (stops_fault _ too.rest other too.stands) in
    let place : length (spelled has.pieces) ≡ length (spelled too.pieces) = ap length same.spelled_is in
    let e = sym (fault_read _ has.rest fault has.stands) ∙ ap₂ prefix place same.rest_is ∙ fault_read _ too.rest other too.stands in
    err_prefix _ _ e
  where
    err_prefix : (a b : LexError) → ◌≡◌ {A = Result Prefix LexError} (Err a) (Err b) → a ≡ b
    err_prefix a b same = cc

pub not_both : NotBoth
not_both text tokens fault has too =
    let same = same_reading [] has.pieces too.pieces [] too.rest (sym (to_end text tokens has) ∙ too.text_is) has.stand too.stand
    stops_end (stops_fault _ too.rest fault too.stands) in
    let some = fault_some _ too.rest fault too.stands in
    let long = ap length same.rest_is in
    absurd (omega arith)

-- ---- each text has a reading

abbrev Outcome : Text → Type 0
Outcome text = ((tokens : List a_token.Token) × HasTokens text tokens) ⊎ ((fault : LexError) × HasFault text fault)

-- the outcome of a text from its next piece on, where what is left after it has one
next_outcome : (left : ℕ) (text rest : Text) (tokens : List a_token.Token) (line : ℕ) → 0 < length rest →
    length rest ≤ suc left → IsRead text rest tokens line
    → ((more : Text) (others : List a_token.Token) (later : ℕ) → length more ≤ left → IsRead text more others later → Outcome text)
    → (found : Result Prefix LexError) → prefix (length text - length rest) rest ≡ found → Outcome text
next_outcome left text rest tokens line some short read go (Ok found) is =
    let within = prefix_within _ rest found some is in
    let long = length-drop (len_of found) rest in
    go (drop (len_of found) rest) _ _ (omega arith) (read_more text rest tokens line found read some is)
next_outcome left text rest tokens line some short read go (Err fault) is = inr (fault, read_fault text rest tokens line fault read some is)

outcome : (left : ℕ) (text rest : Text) (tokens : List a_token.Token) (line : ℕ) → length rest ≤ left →
    IsRead text rest tokens line → Outcome text
outcome left text [] tokens line short read = inl (tokens, read_end text tokens line read)
outcome zero text (byte ∷ rest) tokens line short read = absurd (omega arith)
outcome (suc left) text (byte ∷ rest) tokens line short read =
    next_outcome left text (byte ∷ rest) tokens line (omega arith) short read (λ more others later fewer so_far. outcome left text more others later fewer so_far)
    (prefix (length text - length (byte ∷ rest)) (byte ∷ rest)) refl

pub has_reading : HasReading
has_reading text = outcome (length text) text text [] 1 (omega arith) (read_start text)
