-- The tokens of pieces stand where the pieces stand.
use Rattle.std.proofs.Common.{◌≡◌, ◌+◌, ◌-◌, List, [], ◌∷◌, ◌++◌, length, take, drop, slice_range, All, refl, sym, ap, ◌∙◌, subst, arith, append_assoc, length-append, take_at, drop_at}
use Rattle.std.proofs.lemmas.List.Elements.{All-cons}
use Rattle.pw_lex.specs.declared.token.Token.{Token}
use Rattle.pw_lex.specs.declared.token.TokenKind.{TokenKind}
use Rattle.pw_lex.specs.Bytes.{Text}
use Rattle.pw_lex.specs.Token.{IsToken}
use Rattle.pw_lex.specs.Fault as piece
use Rattle.pw_lex.specs.Fault.{Piece, bytes_of}
use Rattle.pw_lex.specs.Text.{spelled, Stand, tokens_after, line_after}
use Rattle.pw_lex.specs.Laws.{StandsIn, TokensStand}
use Rattle.pw_lex.proofs.FirstBytes.{token_some}

token_at : (before bytes : Text) (kind : TokenKind) → Token
token_at before bytes kind = record { kind = kind; first = length before; end = length before + length bytes; line = line_after before }

stands_in : (text before bytes rest : Text) (kind : TokenKind) → text ≡ before ++ (bytes ++ rest) → IsToken bytes kind →
    StandsIn text (token_at before bytes kind)
unfolding token_at
stands_in text before bytes rest kind is token =
    let some = token_some bytes kind token in
    let long = ap length is ∙ length-append before (bytes ++ rest) in
    let inner = length-append bytes rest in
    let left : drop (length before) text ≡ bytes ++ rest = ap (drop (length before)) is ∙ drop_at before (bytes ++ rest) (length before) refl in
    let len : length bytes ≡ length before + length bytes - length before = omega arith in
    let slice : slice_range text (length before) (length before + length bytes) ≡ bytes =
    ap (take (length before + length bytes - length before)) left ∙ take_at bytes rest (length before + length bytes - length before) len in
    let prefix : take (length before) text ≡ before = ap (take (length before)) is ∙ take_at before (bytes ++ rest) (length before) refl in
    record {
      some = omega arith;
      within = omega arith;
      is = subst (λ b. IsToken b kind) (sym slice) token;
      line_is = ap line_after (sym prefix);
    }

all_stand : (text before : Text) (pieces : List Piece) → text ≡ before ++ spelled pieces → Stand pieces [] →
    All (StandsIn text) (tokens_after before pieces)
unfolding token_at
all_stand text before [] is stand = λ k d within. absurd (omega arith)
all_stand text before (piece.white byte ∷ pieces) is stand =
    all_stand text (before ++ byte ∷ []) pieces (is ∙ sym (append_assoc before (byte ∷ []) (spelled pieces))) stand.1
all_stand text before (piece.line_comment body ∷ pieces) is stand =
    all_stand text (before ++ bytes_of (piece.line_comment body)) pieces (is ∙ sym (append_assoc before (bytes_of (piece.line_comment body)) (spelled pieces))) stand.1
all_stand text before (piece.block_comment body ∷ pieces) is stand =
    all_stand text (before ++ bytes_of (piece.block_comment body)) pieces (is ∙ sym (append_assoc before (bytes_of (piece.block_comment body)) (spelled pieces))) stand.1
all_stand text before (piece.token bytes kind ∷ pieces) is stand =
    All-cons (StandsIn text) (token_at before bytes kind) (tokens_after (before ++ bytes) pieces)
    (stands_in text before bytes (spelled pieces) kind is stand.0.token)
    (all_stand text (before ++ bytes) pieces (is ∙ sym (append_assoc before bytes (spelled pieces))) stand.1)

pub tokens_stand : TokensStand
tokens_stand text tokens has = subst (All (StandsIn text)) (sym has.tokens_are) (all_stand text [] has.pieces has.text_is has.stand)
