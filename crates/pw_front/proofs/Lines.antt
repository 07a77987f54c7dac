-- A text has at most as many tokens as bytes that end no line.
use Rattle.std.proofs.Common.{◌+◌, ◌<◌, ◌≤◌, List, [], ◌∷◌, ◌++◌, length, count_by, cond, inl, inr, refl, arith, length-append}
use Rattle.std.proofs.lemmas.List.Sums.{sum_by-append, count_by-le-length}
use Rattle.pw_lex.specs.declared.token.Token.{Token}
use Rattle.pw_lex.specs.Bytes.{Text}
use Rattle.pw_lex.specs.Fault.{Piece, white, line_comment, block_comment, token, bytes_of, StandsBefore}
use Rattle.pw_lex.specs.Text.{HasTokens, Stand, is_newline, spelled, tokens_of_piece, tokens_after}
use Rattle.pw_grammar.specs.declared.error.SyntaxError.{SyntaxError}
use Rattle.pw_grammar.specs.declared.error.SyntaxError.TheVariants.{At, TooNested, TooLong, NoMemory}
use Rattle.pw_grammar.specs.Declarations.{IsUnit, spelled_unit}
use Rattle.pw_grammar.specs.Faults.{IsFault, IsFirstFault}
use Rattle.pw_grammar.proofs.Exports.{token_ends}

piece_ends : (before : Text) (piece : Piece) (rest : Text) → StandsBefore piece rest
    → length (tokens_of_piece before piece) + count_by is_newline (bytes_of piece) ≤ length (bytes_of piece)
piece_ends before (white byte) rest stands = omega (arith, count_by-le-length is_newline (bytes_of (white byte)))
piece_ends before (line_comment body) rest stands = omega (arith, count_by-le-length is_newline (bytes_of (line_comment body)))
piece_ends before (block_comment body) rest stands = omega (arith, count_by-le-length is_newline (bytes_of (block_comment body)))
piece_ends before (token bytes kind) rest stands = token_ends bytes kind stands.token

pieces_end : (before : Text) (pieces : List Piece) (rest : Text) → Stand pieces rest
    → length (tokens_after before pieces) + count_by is_newline (spelled pieces) ≤ length (spelled pieces)
pieces_end before [] rest stand = omega arith
pieces_end before (piece ∷ pieces) rest stand =
    let here = piece_ends before piece (spelled pieces ++ rest) stand.0 in
    let later = pieces_end (before ++ bytes_of piece) pieces rest stand.1 in
    let tokens = length-append (tokens_of_piece before piece) (tokens_after (before ++ bytes_of piece) pieces) in
    let bytes = length-append (bytes_of piece) (spelled pieces) in
    let ends = sum_by-append (λ b. cond (is_newline b) 1 0) (bytes_of piece) (spelled pieces) in
    omega arith

pub tokens_and_ends : (text : Text) (tokens : List Token) → HasTokens text tokens →
    length tokens + count_by is_newline text ≤ length text
tokens_and_ends text tokens has =
    rw (has.text_is, has.tokens_are) (pieces_end [] has.pieces [] has.stand)

pub tokens_within : (text : Text) (tokens : List Token) → HasTokens text tokens → length tokens ≤ length text
tokens_within text tokens has = omega (arith, tokens_and_ends text tokens has)

-- ---- a list with a fault has a token

no_tokens_no_fault : (fault : SyntaxError) → IsFault [] fault → ⊥
unfolding IsUnit spelled_unit
no_tokens_no_fault (At t) (inl stuck) = absurd (omega (arith, stuck.0))
no_tokens_no_fault (At t) (inr ends) = ends.1 (record { phrase = []; is = tt; spells = refl })
no_tokens_no_fault (TooNested t) is = absurd (omega (arith, is.0))
no_tokens_no_fault (TooLong t) is = absurd (omega (arith, is.0))
no_tokens_no_fault NoMemory is = is

some_token : (tokens : List Token) (fault : SyntaxError) → IsFirstFault tokens fault → 0 < length tokens
some_token [] fault first = absurd (no_tokens_no_fault fault first.is)
some_token (t ∷ ts) fault first = omega arith

-- so the line of the text's end is at most the text's length
pub end_within : (text : Text) (tokens : List Token) (fault : SyntaxError) → HasTokens text tokens → IsFirstFault tokens fault
    → 1 + count_by is_newline text ≤ length text
end_within text tokens fault has first =
    omega (arith, tokens_and_ends text tokens has, some_token tokens fault first)
