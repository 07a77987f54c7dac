-- A text read from left to right: what holds before each piece, and what it gives at the end or at a fault.
use Rattle.std.proofs.Common.{◌≡◌, ◌≢◌, ℕ, ◌+◌, ◌-◌, ◌<◌, ◌≤◌, ◌==◌, Bool, false, List, [], ◌∷◌, ◌++◌, length, take, drop, count_by, cond, Ok, Err, IfSome, refl, sym, ap, ◌∙◌, subst, arith, append_assoc, append-nil, length-append, take_at, drop_at}
use Rattle.std.proofs.lemmas.List.Sums.{sum_by-append, count_by-le-length}
use Rattle.pw_lex.specs.declared.prefix.Prefix.{Prefix}
use Rattle.pw_lex.specs.declared.token.Token.{Token}
use Rattle.pw_lex.specs.declared.error.LexError.{LexError}
use Rattle.pw_lex.specs.declared.error.LexError.TheVariants.{BadByte, OpenComment, BadNumber, TooWide, LongName, NoMemory}
use Rattle.pw_lex.specs.Bytes.{Text}
use Rattle.pw_lex.specs.Fault.{Piece, bytes_of, StandsBefore}
use Rattle.pw_lex.specs.Text.{is_newline, line_after, spelled, Stand, tokens_of_piece, tokens_after, HasTokens, FaultStands, HasFault, place_of}
use Rattle.pw_lex.specs.Reading.{prefix, len_of, tokens_of_prefix}
use Rattle.pw_lex.proofs.Prefixes.{len-prefix_of, tokens-prefix_of, explained, fault_explained, piece_some, fault_some, fault_place}

spelled_push : (pieces : List Piece) (piece : Piece) → spelled (pieces ++ piece ∷ []) ≡ spelled pieces ++ bytes_of piece
spelled_push [] piece = append-nil (bytes_of piece)
spelled_push (first ∷ pieces) piece =
    ap (λ t. bytes_of first ++ t) (spelled_push pieces piece) ∙ sym (append_assoc (bytes_of first) (spelled pieces) (bytes_of piece))

Stand_push : (pieces : List Piece) (piece : Piece) (rest : Text) → Stand pieces (bytes_of piece ++ rest) →
    StandsBefore piece rest → Stand (pieces ++ piece ∷ []) rest
Stand_push [] piece rest stand right = (right, tt)
Stand_push (first ∷ pieces) piece rest stand right =
    let same : spelled pieces ++ (bytes_of piece ++ rest) ≡ spelled (pieces ++ piece ∷ []) ++ rest =
    sym (append_assoc (spelled pieces) (bytes_of piece) rest) ∙ ap (λ t. t ++ rest) (sym (spelled_push pieces piece)) in
    (subst (StandsBefore first) same stand.0, Stand_push pieces piece rest stand.1 right)

tokens_push : (before : Text) (pieces : List Piece) (piece : Piece)
    → tokens_after before (pieces ++ piece ∷ []) ≡ tokens_after before pieces ++ tokens_of_piece (before ++ spelled pieces) piece
tokens_push before [] piece = append-nil (tokens_of_piece before piece) ∙ ap (λ t. tokens_of_piece t piece) (sym (append-nil before))
tokens_push before (first ∷ pieces) piece =
    ap (λ ts. tokens_of_piece before first ++ ts)
    (tokens_push (before ++ bytes_of first) pieces piece
    ∙ ap (λ t. tokens_after (before ++ bytes_of first) pieces ++ tokens_of_piece t piece) (append_assoc before (bytes_of first) (spelled pieces)))
    ∙ sym (append_assoc (tokens_of_piece before first) (tokens_after (before ++ bytes_of first) pieces) (tokens_of_piece (before ++ (bytes_of first ++ spelled pieces)) piece))

-- The text up to `rest` is pieces, with these tokens; `line` is the line of what follows.
pub record IsRead (text rest : Text) (tokens : List Token) (line : ℕ) : Type 0 where
  pub pieces : List Piece
  pub stand : Stand pieces rest
  pub text_is : text ≡ spelled pieces ++ rest
  pub tokens_are : tokens ≡ tokens_after [] pieces
  pub line_is : line ≡ line_after (spelled pieces)

pub read_start : (text : Text) → IsRead text text [] 1
read_start text = record { pieces = []; stand = tt; text_is = refl; tokens_are = refl; line_is = refl }

-- where the next piece begins
pub place_is : (text rest : Text) (tokens : List Token) (line : ℕ) (read : IsRead text rest tokens line) →
    length text - length rest ≡ length (spelled read.pieces)
place_is text rest tokens line read = let long = ap length read.text_is ∙ length-append (spelled read.pieces) rest in omega arith

-- the line is at most one more than the bytes before it
pub line_within : (text rest : Text) (tokens : List Token) (line : ℕ) → IsRead text rest tokens line →
    line + length rest ≤ length text + 1
line_within text rest tokens line read =
    let long = ap length read.text_is ∙ length-append (spelled read.pieces) rest in
    let few = count_by-le-length is_newline (spelled read.pieces) in
    let line_is = read.line_is in
    omega arith

-- the piece's length is within the text, and not 0
pub prefix_within : (at : ℕ) (rest : Text) (found : Prefix) → 0 < length rest → prefix at rest ≡ Ok found →
    (0 < len_of found) × (len_of found ≤ length rest)
prefix_within at rest found some is =
    let e = explained at rest found some is in
    let long = ap length e.text_is ∙ length-append (bytes_of e.stands) e.rest in
    let len = ap len_of e.found_is ∙ len-prefix_of e.stands in
    (omega (arith, piece_some e.stands e.rest e.right), omega arith)

pub read_more : (text rest : Text) (tokens : List Token) (line : ℕ) (found : Prefix) → IsRead text rest tokens line →
    0 < length rest → prefix (length text - length rest) rest ≡ Ok found
    → IsRead text (drop (len_of found) rest) (tokens ++ tokens_of_prefix (length text - length rest) line found) (line + count_by is_newline (take (len_of found) rest))
read_more text rest tokens line found read some is =
    let e = explained (length text - length rest) rest found some is in
    let before = spelled read.pieces in
    let place = place_is text rest tokens line read in
    let len_is : length (bytes_of e.stands) ≡ len_of found = sym (ap len_of e.found_is ∙ len-prefix_of e.stands) in
    let taken : take (len_of found) rest ≡ bytes_of e.stands = ap (take (len_of found)) e.text_is ∙ take_at (bytes_of e.stands) e.rest (len_of found) len_is in
    let left : drop (len_of found) rest ≡ e.rest = ap (drop (len_of found)) e.text_is ∙ drop_at (bytes_of e.stands) e.rest (len_of found) len_is in
    let line_is : line ≡ line_after before = read.line_is in
    record {
      pieces = read.pieces ++ e.stands ∷ [];
      stand = subst (Stand (read.pieces ++ e.stands ∷ [])) (sym left) (Stand_push read.pieces e.stands e.rest (subst (Stand read.pieces) e.text_is read.stand) e.right);
      text_is = read.text_is ∙ ap (λ t. before ++ t) (e.text_is ∙ ap (λ t. bytes_of e.stands ++ t) (sym left))
          ∙ sym (append_assoc before (bytes_of e.stands) (drop (len_of found) rest)) ∙ ap (λ t. t ++ drop (len_of found) rest) (sym (spelled_push read.pieces e.stands));
      tokens_are = ap (λ ts. ts ++ tokens_of_prefix (length text - length rest) line found) read.tokens_are
          ∙ ap (λ n. tokens_after [] read.pieces ++ tokens_of_prefix n line found) place
          ∙ ap (λ n. tokens_after [] read.pieces ++ tokens_of_prefix (length before) n found) line_is
          ∙ ap (λ ts. tokens_after [] read.pieces ++ ts) (ap (tokens_of_prefix (length before) (line_after before)) e.found_is ∙ sym (tokens-prefix_of before e.stands))
          ∙ sym (tokens_push [] read.pieces e.stands);
      line_is =
          let counted = sum_by-append (λ b. cond (is_newline b) 1 0) before (bytes_of e.stands) in
          let all = ap (count_by is_newline) (spelled_push read.pieces e.stands) in
          let part = ap (count_by is_newline) taken in
          omega arith;
    }

pub read_end : (text : Text) (tokens : List Token) (line : ℕ) → IsRead text [] tokens line → HasTokens text tokens
read_end text tokens line read = record {
  pieces = read.pieces;
  stand = read.stand;
  text_is = read.text_is ∙ append-nil (spelled read.pieces);
  tokens_are = read.tokens_are;
}

pub read_fault : (text rest : Text) (tokens : List Token) (line : ℕ) (fault : LexError) → IsRead text rest tokens line →
    0 < length rest
    → prefix (length text - length rest) rest ≡ Err fault → HasFault text fault
read_fault text rest tokens line fault read some is = record {
  pieces = read.pieces;
  rest = rest;
  stand = read.stand;
  text_is = read.text_is;
  stands = subst (λ at. FaultStands at rest fault) (place_is text rest tokens line read) (fault_explained (length text - length rest) rest fault some is);
}

-- ---- the place of a fault is within the text

pub place_within : (text : Text) (fault : LexError) → HasFault text fault →
    IfSome (place_of fault) (λ place. place < length text)
place_within text fault has =
    let long = ap length has.text_is ∙ length-append (spelled has.pieces) has.rest in
    let some = fault_some (length (spelled has.pieces)) has.rest fault has.stands in
    let within : length (spelled has.pieces) < length text = omega arith in
    subst (λ place. IfSome place (λ p. p < length text)) (sym (fault_place (length (spelled has.pieces)) has.rest fault has.stands)) within

pub place_within_unless : (text : Text) (fault : LexError) → (fault ≢ NoMemory → HasFault text fault) →
    IfSome (place_of fault) (λ place. place < length text)
place_within_unless text (BadByte place) has = place_within text (BadByte place) (has (λ e. cc))
place_within_unless text (OpenComment place) has = place_within text (OpenComment place) (has (λ e. cc))
place_within_unless text (BadNumber place) has = place_within text (BadNumber place) (has (λ e. cc))
place_within_unless text (TooWide place) has = place_within text (TooWide place) (has (λ e. cc))
place_within_unless text (LongName place) has = place_within text (LongName place) (has (λ e. cc))
place_within_unless text NoMemory has = tt

-- what `is_empty` says where it is false
pub some_left : (text : Text) (empty : Bool) → empty ≡ (length text == 0) → empty ≡ false → 0 < length text
some_left [] empty is fails = (let e = sym fails ∙ is in cc)
some_left (byte ∷ text) empty is fails = omega arith
